-- A cleaning: what its sweep leaves, and what its releases leave.
use Rattle.std.proofs.Common.{◌≡◌, ℕ, ◌+◌, ◌*◌, ◌<◌, ◌≤◌, ◌==◌, ◌&&◌, ◌||◌, List, [], ◌∷◌, length, filter, map, All, None, IsSomeAnd, refl, sym, ap, ◌∙◌, subst, arith, Bool, true, false, not, cond, eq-eqb, ne_eqb, if◌then◌else◌}
use Rattle.std.specs.List.{list_any}
use Rattle.std.proofs.lemmas.Bool.{and_from, or_from, or_left, or_right, cond-true, false≢true}
use Rattle.std.proofs.lemmas.List.Elements.{All-cons, All-nil, All-head, All-tail, All-weaker}
use Rattle.std.proofs.lemmas.List.Sums.{sum_by-cons}
use Rattle.tag_model.specs.declared.shape.Shape.{Shape}
use Rattle.tag_model.specs.declared.state.ListPart.{ListPart}
use Rattle.tag_model.specs.declared.state.Part.TheVariants.{Modules}
use Rattle.tag_model.specs.declared.state.Kind.TheVariants.{Bytes}
use Rattle.tag_model.specs.declared.state.Record.{Record}
use Rattle.tag_model.specs.declared.state.Stop.{Stop}
use Rattle.tag_model.specs.declared.state.Sweep.{Sweep}
use Rattle.tag_model.specs.declared.state.Sweep.TheVariants as sweep
use Rattle.tag_model.specs.declared.state.Run.{Run}
use Rattle.tag_model.specs.Laws.{is_listed, is_reading, rises_from, ids_of, of_reader, same_kind}
use Rattle.tag_model.specs.WordState.{in_range, one_if}
use Rattle.tag_model.proofs.Ids.{rises_cons}
use Rattle.tag_model.proofs.Lists.{in_range_means}
use Rattle.tag_model.specs.StepRules.{Sweeps, dead_ids}
use Rattle.tag_model.specs.Sweeping.{are_above_zero, has_stop, ids_left, is_accounted, is_off, tags_of}
use Rattle.tag_model.proofs.Accounted.{begins_off, sweeps_account}
use Rattle.tag_model.proofs.SweepSteps.{sweeps_at_most, sweeps_read}
use Rattle.module_area.specs.declared.entry.Entry.{Entry}
use Rattle.module_area.specs.Entries.{Covers, is_dead}
use Rattle.module_area.specs.Area.{Area, IsBook}
use Rattle.module_list.specs.Listing.{releasable, swept}
use Rattle.core_list.specs.ListState.{record_of}
use Rattle.core_list.proofs.Split.{book_rises, the_entry}
use Rattle.reclaim.specs.State.{LockedShown, IsLocked, part_of, is_still}
use Rattle.reclaim.specs.Steps.{Reads, with_listing}
use Rattle.reclaim.specs.Sweeps.{Cleaned, IsStopIn, Releases, dead_tags, is_kept}
use Rattle.reclaim.proofs.Reading.{IsInRecord, reads_above_zero, reads_account, reads_keep, reads_off, reads_some, reads_within}
use Rattle.tag_rule.specs.Shown.{ListShown}
use Rattle.tag_section.specs.Section.{Section}
use Rattle.reclaim.specs.Tied.{AreTied}
use Rattle.reclaim.proofs.Gone.{releases_are, releases_still}
use Rattle.reclaim.proofs.Tying.{ties}

-- ---- a sweep that isn't reading, and has nothing to release, has no id left

pub none_left : (s : Sweep) → is_still s ≡ true → releasable s ≡ None → ids_left s ≡ []
none_left sweep.None still none = refl
none_left (sweep.Reading left r) still none = absurd (false≢true still)
none_left (sweep.Done []) still none = refl
none_left (sweep.Done (id ∷ left)) still none = absurd (cc)

-- ---- what stays is kept

dead_there : (P : ℕ → Bool) (es : List Entry) → ((id : ℕ) → list_any (λ (r : Record). (r.id == id) && r.dead) (map record_of es) ≡ true → P id ≡ true) → All (λ e. is_dead e.state ≡ true → P e.id ≡ true) es
dead_there P [] h = All-nil (λ (e : Entry). is_dead e.state ≡ true → P e.id ≡ true)
dead_there P (x ∷ xs) h =
    All-cons (λ (e : Entry). is_dead e.state ≡ true → P e.id ≡ true) x xs (λ d. h x.id (or_left _ _ (and_from _ _ (eq-eqb x.id x.id refl) d)))
    (dead_there P xs (λ id later. h id (or_right _ _ later)))

kept_if : (d s : Bool) → (d ≡ true → s ≡ true) → (not d || s) ≡ true
kept_if true s h = h refl
kept_if false s h = refl

filter_all : (p : Entry → Bool) (es : List Entry) → All (λ e. p e ≡ true) es → filter p es ≡ es
filter_all p [] all = refl
filter_all p (x ∷ xs) all =
    cond-true (p x) (x ∷ filter p xs) (filter p xs) (All-head (λ e. p e ≡ true) x xs all) ∙ ap (λ es. x ∷ es) (filter_all p xs (All-tail (λ e. p e ≡ true) x xs all))

-- where no id is left, what is accounted has a stop
accounted_stop : (d l s : Bool) → (not d || l || s) ≡ true → l ≡ false → d ≡ true → s ≡ true
accounted_stop true false s h none is = h
accounted_stop true true s h none is = absurd (false≢true (sym none))
accounted_stop false l s h none is = absurd (false≢true is)

pub all_kept : (l : LockedShown) → ids_left l.sweep ≡ [] → ((id : ℕ) → is_accounted id (part_of l) ≡ true) → filter (is_kept l.stops) l.area.entries ≡ l.area.entries
all_kept l none accounted =
    filter_all (is_kept l.stops) l.area.entries
    (All-weaker (λ e. is_dead e.state ≡ true → has_stop e.id l.stops ≡ true) (λ e. is_kept l.stops e ≡ true) (λ e h. kept_if (is_dead e.state) (has_stop e.id l.stops) h) l.area.entries
    (dead_there (λ id. has_stop id l.stops) l.area.entries (λ id there. accounted_stop _ (is_listed (ids_left l.sweep) id) (has_stop id l.stops) (accounted id) (ap (λ ids. is_listed ids id) none) there)))

-- ---- the tags that a sweep of all reads

-- the records of dead entries alone are listed
tags_listed : (ids : List ℕ) (es : List Entry) → All (λ e. is_listed ids e.id ≡ is_dead e.state) es → tags_of ids (map record_of es) ≡ dead_tags es
tags_listed ids [] all = refl
tags_listed ids (x ∷ xs) all =
    let later = tags_listed ids xs (All-tail (λ (e : Entry). is_listed ids e.id ≡ is_dead e.state) x xs all) in
    let here = All-head (λ (e : Entry). is_listed ids e.id ≡ is_dead e.state) x xs all in
    sum_by-cons (λ (r : Record). if is_listed ids r.id then r.length else 0) (record_of x) (map record_of xs)
    ∙ (λ i. cond (here i) x.length 0 + later i)
    ∙ sym (sum_by-cons (λ (e : Entry). if is_dead e.state then e.length else 0) x xs)

pub listed_dead : (records : List Record) (id : ℕ) → is_listed (dead_ids records) id ≡ list_any (λ (r : Record). (r.id == id) && r.dead) records
listed_dead [] id = refl
listed_dead (r ∷ rs) id = go r.dead (listed_dead rs id)
  where
    go : (b : Bool) → is_listed (dead_ids rs) id ≡ list_any (λ (x : Record). (x.id == id) && x.dead) rs → is_listed (map (λ (x : Record). x.id) (cond b (r ∷ filter (λ (x : Record). x.dead) rs) (filter (λ (x : Record). x.dead) rs))) id ≡ (((r.id == id) && b) || list_any (λ (x : Record). (x.id == id) && x.dead) rs)
    go true later = ap (λ b. (r.id == id) || b) later ∙ same (r.id == id)
      where
        same : (b : Bool) → (b || list_any (λ (x : Record). (x.id == id) && x.dead) rs) ≡ ((b && true) || list_any (λ (x : Record). (x.id == id) && x.dead) rs)
        same true = refl
        same false = refl
    go false later = later ∙ same (r.id == id)
      where
        same : (b : Bool) → list_any (λ (x : Record). (x.id == id) && x.dead) rs ≡ ((b && false) || list_any (λ (x : Record). (x.id == id) && x.dead) rs)
        same true = refl
        same false = refl

none_dead : (id low : ℕ) (es : List Entry) → id ≤ low → rises_from low (ids_of (map record_of es)) ≡ true → list_any (λ (r : Record). (r.id == id) && r.dead) (map record_of es) ≡ false
none_dead id low [] h e = refl
none_dead id low (x ∷ xs) h e =
    let both = rises_cons low x.id (ids_of (map record_of xs)) e in
    or_from _ _ (ap (λ b. b && is_dead x.state) (ne_eqb x.id id (λ same. omega (arith, both.0)))) (none_dead id x.id xs (omega (arith, both.0)) both.1)

-- a test that tells dead ids tells dead entries
tells_dead : (test : ℕ → Bool) (low : ℕ) (es : List Entry) → rises_from low (ids_of (map record_of es)) ≡ true → ((id : ℕ) → low < id → test id ≡ list_any (λ (r : Record). (r.id == id) && r.dead) (map record_of es))
    → All (λ (e : Entry). test e.id ≡ is_dead e.state) es
tells_dead test low [] rises h = All-nil (λ (e : Entry). test e.id ≡ is_dead e.state)
tells_dead test low (x ∷ xs) rises h =
    let both = rises_cons low x.id (ids_of (map record_of xs)) rises in
    let rest : ℕ → Bool = λ id. list_any (λ (r : Record). (r.id == id) && r.dead) (map record_of xs) in
    All-cons (λ (e : Entry). test e.id ≡ is_dead e.state) x xs
    (h x.id (omega (arith, both.0)) ∙ here (x.id == x.id) (is_dead x.state) (rest x.id) (eq-eqb x.id x.id refl) (none_dead x.id x.id xs (omega arith) both.1))
    (tells_dead test x.id xs both.1 (λ id above. h id (omega (arith, both.0)) ∙ there (x.id == id) (is_dead x.state) (rest id) (ne_eqb x.id id (λ same. omega arith))))
  where
    here : (b d r : Bool) → b ≡ true → r ≡ false → ((b && d) || r) ≡ d
    here true true r is none = refl
    here true false r is none = none
    here false d r is none = absurd (false≢true is)

    there : (b d r : Bool) → b ≡ false → ((b && d) || r) ≡ r
    there false d r is = refl
    there true d r is = absurd (false≢true (sym is))

pub dead_tags_are : (area : Area) → IsBook area → tags_of (dead_ids (map record_of area.entries)) (map record_of area.entries) ≡ dead_tags area.entries
dead_tags_are area book =
    let ids = dead_ids (map record_of area.entries) in
    tags_listed ids area.entries (tells_dead (λ id. is_listed ids id) 0 area.entries (book_rises area book) (λ id above. listed_dead (map record_of area.entries) id))

-- an entry that is dead has a dead record
dead_record : (es : List Entry) → list_any (λ (e : Entry). is_dead e.state) es ≡ true → list_any (λ (r : Record). r.dead) (map record_of es) ≡ true
dead_record [] e = e
dead_record (x ∷ xs) e = go (is_dead x.state) e (dead_record xs)
  where
    go : (b : Bool) → (b || list_any (λ (y : Entry). is_dead y.state) xs) ≡ true → (list_any (λ (y : Entry). is_dead y.state) xs ≡ true → list_any (λ (r : Record). r.dead) (map record_of xs) ≡ true) → (b || list_any (λ (r : Record). r.dead) (map record_of xs)) ≡ true
    go true e later = refl
    go false e later = later e

-- a sweep that reads isn't still
not_still : (s : Sweep) (l : ListPart) → l.sweep ≡ s → is_reading Bytes (Modules l) ≡ 1 → is_still s ≡ false
not_still s l is reading = go s (subst (λ x. of_reader (λ r. one_if (same_kind Bytes r.pass)) (Modules (record l { sweep = x })) ≡ 1) is reading)
  where
    go : (x : Sweep) → of_reader (λ r. one_if (same_kind Bytes r.pass)) (Modules (record l { sweep = x })) ≡ 1 → is_still x ≡ false
    go sweep.None h = absurd (omega (arith, h))
    go (sweep.Done left) h = absurd (omega (arith, h))
    go (sweep.Reading left r) h = refl

-- ---- a stop is of an entry, and tells a tag of its range

pub stop_in : (area : Area) (s : Stop) → IsBook area → IsInRecord (map record_of area.entries) s → IsStopIn area.entries s
stop_in area s book there =
    let t = the_entry area s.id (λ (r : Record). in_range r.start r.length s.tag) book there in
    subst (λ o. IsSomeAnd o (λ (e : Entry). Covers e s.tag)) (sym t.is) (in_range_means t.entry.start t.entry.length s.tag t.passes)

stops_in : (area : Area) (k : Shape) (from p : ListPart) → IsBook area → from.records ≡ map record_of area.entries → from.stops ≡ [] → Reads k from p → All (IsStopIn area.entries) p.stops
stops_in area k from p book records none reads =
    let begun : All (IsInRecord from.records) from.stops = subst (λ st. All (IsInRecord from.records) st) (sym none) (All-nil (IsInRecord from.records)) in
    let same : p.records ≡ map record_of area.entries = (reads_keep k from p reads).records ∙ records in
    All-weaker (IsInRecord (map record_of area.entries)) (IsStopIn area.entries) (λ s h. stop_in area s book h) p.stops
    (subst (λ rs. All (IsInRecord rs) p.stops) same (reads_within k from p reads begun))

-- ---- all together

-- the list after the reads, beside what it was
abbrev pub with_part : ListPart → LockedShown → LockedShown
with_part p l = record l { sweep = p.sweep; stops = p.stops; reads = p.reads }

-- the reads change no record and no run on its way
pub part_after : (l : LockedShown) (k : Shape) (from p : ListPart) → from.records ≡ map record_of l.area.entries → from.away ≡ [] → Reads k from p → p ≡ part_of (with_part p l)
part_after l k from p records away reads =
    let keep = reads_keep k from p reads in
    let of : List Record → List Run → ListPart = λ rs runs. record { records = rs; sweep = p.sweep; stops = p.stops; reads = p.reads; away = runs } in
    ap (λ rs. of rs p.away) (keep.records ∙ records) ∙ ap (of (map record_of l.area.entries)) (keep.away ∙ away)

pub cleaned : (old mid new : LockedShown) (count : ℕ) (p : ListPart) → IsLocked old → Reads old.board.shape (with_listing swept (part_of old)) p → is_still p.sweep ≡ true → mid ≡ with_part p old
    → Releases mid count new → releasable new.sweep ≡ None → Cleaned old new count
cleaned old mid new count p ok reads still is_mid releases none_first =
    let still_new = releases_still mid new count (subst (λ (l : LockedShown). is_still l.sweep ≡ true) (sym is_mid) still) releases in
    let k = old.board.shape in
    let from = with_listing swept (part_of old) in
    let row : Sweeps (part_of old) from = record { after = refl } in
    let part : p ≡ part_of mid = part_after old k from p refl refl reads ∙ ap part_of (sym is_mid) in
    let accounted : (id : ℕ) → is_accounted id (part_of mid) ≡ true = λ id. subst (λ l. is_accounted id l ≡ true) part (reads_account k from p id reads (sweeps_account (part_of old) from id row)) in
    let off : (id : ℕ) → is_off id (part_of mid) ≡ true = λ id. subst (λ l. is_off id l ≡ true) part (reads_off k from p id reads (begins_off (part_of old) from id refl)) in
    let area : mid.area ≡ old.area = ap (λ (l : LockedShown). l.area) is_mid in
    let gone = releases_are mid new count (subst IsBook (sym area) ok.book) accounted off releases in
    let keep = reads_keep k from p reads in
    let mid_reads : mid.reads ≡ p.reads = ap (λ (l : LockedShown). l.reads) is_mid in
    let mid_stops : mid.stops ≡ p.stops = ap (λ (l : LockedShown). l.stops) is_mid in
    let entries : new.area.entries ≡ filter (is_kept new.stops) old.area.entries =
    sym (all_kept new (none_left new.sweep still_new none_first) gone.accounted)
    ∙ (ap (λ st. filter (is_kept st) new.area.entries) gone.stops
    ∙ (gone.kept ∙ (λ i. filter (is_kept ((sym gone.stops) i)) (area i).entries))) in
    record {
      board = gone.board ∙ ap (λ (l : LockedShown). l.board) is_mid;
      sections = gone.sections ∙ ap (λ (l : LockedShown). l.sections) is_mid;
      area = gone.area ∙ (λ i. let a : Area = record (area i) { entries = entries i } in a);
      fewer = omega (arith, gone.fewer, ap (λ (a : Area). length a.entries) area);
      sums = subst (λ st. are_above_zero st ≡ true) (sym (gone.stops ∙ mid_stops)) (reads_above_zero k from p reads refl);
      within = subst (λ st. All (IsStopIn old.area.entries) st) (sym (gone.stops ∙ mid_stops)) (stops_in old.area k from p ok.book refl refl reads);
      most = omega (arith, gone.reads, mid_reads, keep.bound, sweeps_at_most k (part_of old) from (book_rises old.area ok.book) row, ap (λ n. 2 * k.cpus * n) (dead_tags_are old.area ok.book));
      some = λ dead. omega (arith, gone.reads, mid_reads, reads_some k from p reads (not_still from.sweep from refl (sweeps_read (part_of old) from row (dead_record old.area.entries dead))) still);
    }

-- ---- what a sweep that was begun, and read to its end, leaves tied

pub locked_with : (l : LockedShown) (p : ListPart) → IsLocked l → is_still p.sweep ≡ true → IsLocked (with_part p l)
locked_with l p ok still = record { checked = ok.checked; book = ok.book; first = ok.first; within = ok.within; named = ok.named; still = still }

pub swept_ties : (l : LockedShown) (book : Area) (begun read : ListShown) (sections : List Section) → IsLocked l → ◌≡◌ {A = Area} book l.area → sections ≡ l.sections → begun.board ≡ l.board → begun.part.records ≡ map record_of l.area.entries → begun.part.away ≡ []
    → read.board ≡ begun.board → Reads begun.board.shape begun.part read.part → is_still read.part.sweep ≡ true → AreTied book read sections
swept_ties l book begun read sections ok area names board records away same reads still =
    ties (with_part read.part l) book read sections (locked_with l read.part ok still) area (same ∙ board) names (part_after l begun.board.shape begun.part read.part records away reads)
