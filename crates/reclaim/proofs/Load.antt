-- A load: the least start, what it asks of the list, and what it leaves.
use Rattle.std.proofs.Common.{◌≡◌, ◌≢◌, ℕ, ◌+◌, ◌<◌, ◌≤◌, ◌==◌, ◌||◌, ◌⊎◌, nat_le, nat_lt, List, [], ◌∷◌, ◌++◌, length, map, All, Option, None, Some, Result, Ok, Err, IfOk, IsOk, if◌then◌else◌, ne_eqb, le-ltb, refl, sym, ap, ◌∙◌, subst, inl, inr, arith, Bool, true, false, MatchBool, MatchOption, le-leb, ltb-true}
use Rattle.std.specs.List.{list_all, list_any}
use Rattle.std.specs.Option.{unwrap_or}
use Rattle.std.proofs.lemmas.Bool.{cond-true, cond-false, or_from, and_cases, and_from, and_parts, or_left, or_right, or_parts, ltb-false}
use Rattle.std.proofs.lemmas.List.{map-append}
use Rattle.std.proofs.lemmas.List.Elements.{All-cons, All-filter, All-nil, All-push}
use Rattle.tag_model.specs.declared.state.ListPart.{ListPart}
use Rattle.tag_model.specs.declared.state.Record.{Record}
use Rattle.tag_rule.specs.Listed.{MayLoad, with_loaded}
use Rattle.module_area.specs.declared.entry.Entry.{Entry}
use Rattle.module_area.specs.declared.entry.State.TheVariants.{Loaded}
use Rattle.module_area.specs.Entries.{IsLoadedAs, meets}
use Rattle.module_area.specs.Area.{Area, HasNoRoom, IsBook, IsLeastStart, least_start}
use Rattle.core_list.specs.ListState.{record_of}
use Rattle.std.specs.Option.{is_some}
use Rattle.module_area.specs.declared.book.AreaError.{AreaError}
use Rattle.module_area.specs.declared.book.AreaError.TheVariants.{BookFull, NoRoom, NoSection, SameName}
use Rattle.module_area.proofs.StartLemmas.{find_unmet, free_from_none, least_start_is}
use Rattle.core_list.proofs.Refused.{Says}
use Rattle.core_list.proofs.Room.{least_is_free}
use Rattle.reclaim.specs.Loading.{IsPrepared, is_cramped, late_refusal, loaded_as}
use Rattle.tag_section.specs.Section.{tags_in}
use Rattle.reclaim.specs.State.{IsLocked, IsNamed, LockedShown, part_of}
use Rattle.reclaim.specs.Sweeps.{Cleaned, is_kept, with_entries}

-- a range that no entry meets is apart from each record's
unmet_apart : (entries : List Entry) (start size : ℕ) → list_any (λ e. meets e start size) entries ≡ false → list_all (λ (r : Record). nat_le (r.start + r.length) start || nat_le (start + size) r.start) (map record_of entries) ≡ true
unmet_apart [] start size unmet = refl
unmet_apart (x ∷ xs) start size unmet =
    let both = or_parts (meets x start size) (list_any (λ e. meets e start size) xs) unmet in
    and_from _ _ (go (and_cases (nat_lt x.start (start + size)) (nat_lt start (x.start + x.length)) both.0)) (unmet_apart xs start size both.1)
  where
    go : (nat_lt x.start (start + size) ≡ false) ⊎ (nat_lt start (x.start + x.length) ≡ false) → (nat_le (x.start + x.length) start || nat_le (start + size) x.start) ≡ true
    go (inl past) = or_right _ _ (le-leb (start + size) x.start (ltb-false x.start (start + size) past))
    go (inr before) = or_left _ _ (le-leb (x.start + x.length) start (ltb-false start (x.start + x.length) before))

pub may_load : (l : LockedShown) (p : ListPart) (size start : ℕ) → IsLocked l → 1 ≤ size → p ≡ part_of l → Some start ≡ least_start l.area size → MayLoad l.board.shape start size p.records
may_load l p size start ok some part is =
    let f = least_is_free l.area size start (sym is) in
    subst (λ (x : ListPart). MayLoad l.board.shape start size x.records) (sym part) (record {
      some = omega (arith, some);
      above_kernel = omega (arith, f.low, ok.first);
      within = omega (arith, f.high, ok.within);
      clear = unmet_apart l.area.entries start size f.unmet;
    })

-- an id above all records' is above all entries'
pub above_entries : (entries : List Entry) (id : ℕ) → list_all (λ (r : Record). nat_lt r.id id) (map record_of entries) ≡ true → All (λ (e : Entry). e.id < id) entries
above_entries [] id above = All-nil (λ (e : Entry). e.id < id)
above_entries (x ∷ xs) id above =
    let both = and_parts (nat_lt x.id id) (list_all (λ (r : Record). nat_lt r.id id) (map record_of xs)) above in
    All-cons (λ (e : Entry). e.id < id) x xs (ltb-true x.id id both.0) (above_entries xs id both.1)

-- ---- what it leaves

pub part_loaded : (l : LockedShown) (id section size start : ℕ) → Some start ≡ least_start l.area size → with_loaded id section start size (part_of l) ≡ part_of (loaded_as id section size l)
part_loaded l id section size start is =
    let of : List Record → ListPart = λ rs. record { records = rs; sweep = l.sweep; stops = l.stops; reads = l.reads; away = [] } in
    let entry : ℕ → Entry = λ s. record { id = id; section = section; start = s; length = size; state = Loaded; users = 0 } in
    ap of (sym (map-append record_of l.area.entries (entry start ∷ [])) ∙ ap (λ o. map record_of (l.area.entries ++ entry (unwrap_or o 0) ∷ [])) is)

pub area_loaded : (l : LockedShown) (id section size start : ℕ) → Some start ≡ least_start l.area size
    → ◌≡◌ {A = Area} (with_entries (l.area.entries ++ record { id = id; section = section; start = start; length = size; state = Loaded; users = 0 } ∷ []) l) (loaded_as id section size l).area
area_loaded l id section size start is =
    ap (λ o. let a : Area = with_entries (l.area.entries ++ record { id = id; section = section; start = unwrap_or o 0; length = size; state = Loaded; users = 0 } ∷ []) l in a) is

pub locked_loaded : (l : LockedShown) (id section size : ℕ) → IsLocked l → IsBook (loaded_as id section size l).area → section < length l.sections → tags_in l.sections section ≡ size → IsLocked (loaded_as id section size l)
locked_loaded l id section size ok book inside named = record {
  checked = ok.checked;
  book = book;
  first = ok.first;
  within = ok.within;
  named = All-push (IsNamed l.sections) l.area.entries (record { id = id; section = section; start = unwrap_or (least_start l.area size) 0; length = size; state = Loaded; users = 0 }) ok.named (inside, named);
  still = ok.still;
}

-- ---- the room that was made

pub prepared_sections : (size : ℕ) (old mid : LockedShown) → IsPrepared size old mid → mid.sections ≡ old.sections
prepared_sections size old mid prepared = go (is_cramped size old.area) prepared
  where
    go : (b : Bool) → MatchBool b ((count : ℕ) × Cleaned old mid count) (mid ≡ old) → mid.sections ≡ old.sections
    go true h = h.1.sections
    go false h = ap (λ (l : LockedShown). l.sections) h

pub prepared_board : (size : ℕ) (old mid : LockedShown) → IsPrepared size old mid → mid.board ≡ old.board
prepared_board size old mid prepared = go (is_cramped size old.area) prepared
  where
    go : (b : Bool) → MatchBool b ((count : ℕ) × Cleaned old mid count) (mid ≡ old) → mid.board ≡ old.board
    go true h = h.1.board
    go false h = ap (λ (l : LockedShown). l.board) h

pub prepared_all : (P : Entry → Type 0) (size : ℕ) (old mid : LockedShown) → IsPrepared size old mid → All P old.area.entries → All P mid.area.entries
prepared_all P size old mid prepared all = go (is_cramped size old.area) prepared
  where
    go : (b : Bool) → MatchBool b ((count : ℕ) × Cleaned old mid count) (mid ≡ old) → All P mid.area.entries
    go true h = subst (λ (a : Area). All P a.entries) (sym h.1.area) (All-filter (is_kept mid.stops) P old.area.entries all)
    go false h = subst (λ (l : LockedShown). All P l.area.entries) (sym h) all

-- ---- what reserving answers

pub late_none : (size next start : ℕ) (area : Area) → length area.entries ≢ 64 → next ≤ 4294967295 → Some start ≡ least_start area size → late_refusal size next area ≡ None
late_none size next start area room id is =
    cond-false ((length area.entries == 64) || nat_lt 4294967295 next) (Some BookFull) (if is_some (least_start area size) then None else Some NoRoom) (or_from _ _ (ne_eqb _ _ room) (le-ltb 4294967295 next id))
    ∙ cond-true (is_some (least_start area size)) None (Some NoRoom) (ap (λ o. is_some o) (sym is))

-- a start that is free refutes that there is no room
has_room : (area : Area) (size start : ℕ) → Some start ≡ least_start area size → ¬ HasNoRoom area size
has_room area size start is none =
    let f = least_is_free area size start (sym is) in
    let met = none start (f.low, f.high) in
    free_from_none area.entries start size (find_unmet (λ e. meets e start size) area.entries f.unmet) met.0 met.1 met.2 met.3

pub reserves : (section size start : ℕ) (area : Area) (answer : Result ℕ AreaError) → Says section size area answer → All (λ e. ¬ IsLoadedAs section e) area.entries → length area.entries ≢ 64 → Some start ≡ least_start area size → IsOk answer
reserves section size start area (Ok x) says unnamed room is = refl
reserves section size start area (Err SameName) says unnamed room is = let named = says.same_name.0 refl in absurd (subst (λ (e : Entry). ¬ IsLoadedAs section e) named.3 (unnamed named.0 named.1 named.2) named.4)
reserves section size start area (Err BookFull) says unnamed room is = absurd (room (says.book_full.0 refl).1)
reserves section size start area (Err NoRoom) says unnamed room is = absurd (has_room area size start is (says.no_room.0 refl).2)
reserves section size start area (Err NoSection) says unnamed room is = absurd (says.never refl)

-- the entry that is reserved stands at the least start
pub reserved_area : (l : LockedShown) (new : Area) (id section size start : ℕ) (answer : Result ℕ AreaError) → IsLocked l → 1 ≤ size → answer ≡ Ok start
    → IfOk answer (λ s. IsLeastStart l.area size s × (new ≡ with_entries (l.area.entries ++ record { id = id; section = section; start = s; length = size; state = Loaded; users = 0 } ∷ []) l))
    → new ≡ (loaded_as id section size l).area
reserved_area l new id section size start answer ok some is reserved =
    let r : IsLeastStart l.area size start × (new ≡ with_entries (l.area.entries ++ record { id = id; section = section; start = start; length = size; state = Loaded; users = 0 } ∷ []) l) =
    subst (λ (a : Result ℕ AreaError). IfOk a (λ s. IsLeastStart l.area size s × (new ≡ with_entries (l.area.entries ++ record { id = id; section = section; start = s; length = size; state = Loaded; users = 0 } ∷ []) l))) is reserved in
    r.1 ∙ area_loaded l id section size start (sym (least_start_is l.area size start ok.book some r.0))

pub late_ends : (o : Option AreaError) (P : Type 0) (Q : AreaError → Type 0) → o ≡ None → P → MatchOption o P Q
late_ends o P Q none p = subst (λ x. MatchOption x P Q) (sym none) p

-- what a section that is admitted says
pub record Admitted (o : Option AreaError) (size tags : ℕ) : Type 0 where
  pub not_refused : o ≡ None
  pub same : size ≡ tags

pub admitted : (o : Option AreaError) (answer : Result ℕ AreaError) (size tags : ℕ) → MatchOption o (answer ≡ Ok tags) (λ why. answer ≡ Err why) → answer ≡ Ok size → Admitted o size tags
admitted None answer size tags told is = record { not_refused = refl; same = ok_is (sym is ∙ told) }
  where
    ok_is : ◌≡◌ {A = Result ℕ AreaError} (Ok size) (Ok tags) → size ≡ tags
    ok_is e = cc
admitted (Some why) answer size tags told is = absurd (ok_err (sym is ∙ told))
  where
    ok_err : ◌≡◌ {A = Result ℕ AreaError} (Ok size) (Err why) → ⊥
    ok_err e = cc
