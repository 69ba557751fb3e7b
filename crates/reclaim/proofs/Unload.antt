-- An unload: what its sweep comes to.
use Rattle.std.proofs.Common.{◌≡◌, ◌≢◌, ℕ, ◌+◌, ◌*◌, ◌<◌, ◌≤◌, ◌==◌, ◌&&◌, ◌||◌, List, [], ◌∷◌, ◌++◌, length, map, All, Option, None, Some, IsSomeAnd, Result, Ok, Err, IfOk, IsOk, OnErr, MatchOption, slice_get, refl, sym, ap, ◌∙◌, subst, arith, Bool, true, false, not, cond, eqb-true, eq-eqb}
use Rattle.std.specs.List.{list_any}
use Rattle.std.proofs.lemmas.Bool.{and_from, cond-true, cond-false, cond_both, false≢true}
use Rattle.std.proofs.lemmas.List.Elements.{All-head, All-map, All-nil, All-weaker}
use Rattle.tag_model.specs.declared.shape.Shape.{Shape}
use Rattle.tag_model.specs.declared.state.Kind.TheVariants.{Bytes}
use Rattle.tag_model.specs.declared.state.ListPart.{ListPart}
use Rattle.tag_model.specs.declared.state.Record.{Record}
use Rattle.tag_model.specs.declared.state.Stop.{Stop}
use Rattle.tag_model.specs.declared.state.Sweep.{Sweep}
use Rattle.tag_model.specs.declared.state.Sweep.TheVariants as sweep
use Rattle.tag_model.specs.Laws.{is_listed}
use Rattle.tag_model.specs.StepRules.{MarksDead, begins_pass}
use Rattle.tag_model.specs.Sweeping.{are_above_zero, has_stop, ids_left, is_accounted}
use Rattle.tag_model.proofs.Accounted.{marks_account}
use Rattle.tag_model.proofs.Found.{any_at}
use Rattle.tag_model.proofs.Lists.{in_range_means}
use Rattle.tag_model.proofs.SweepSteps.{marks_at_most}
use Rattle.tag_model.specs.WordState.{in_range}
use Rattle.tag_rule.specs.Shown.{Board, ListShown}
use Rattle.tag_section.specs.Section.{Section}
use Rattle.module_area.specs.declared.entry.Entry.{Entry}
use Rattle.module_area.specs.declared.entry.State.TheVariants.{Loaded}
use Rattle.module_area.specs.Entries.{Covers, entry_of, is_dead, kept, with_entry, without_entry}
use Rattle.module_area.specs.Area.{Area, IsBook}
use Rattle.module_list.specs.Listing.{Listing, dead_record, listing_of, marked_dead, releasable, with_record}
use Rattle.module_list.proofs.At.{record_at}
use Rattle.core_list.specs.ListState.{ListState, record_of}
use Rattle.core_list.proofs.Listed.{listed_dead, record_found}
use Rattle.core_list.proofs.Split.{book_entry_at, book_rises, records_at, records_changed, the_entry}
use Rattle.reclaim.specs.declared.answers.Reclaim.{Reclaim}
use Rattle.reclaim.specs.declared.answers.Reclaim.TheVariants.{Kept, Released}
use Rattle.reclaim.specs.declared.answers.UnloadError.{UnloadError}
use Rattle.reclaim.specs.Refusals.{refused, unload_refusal}
use Rattle.std.proofs.lemmas.Option.{none-some, same_Some}
use Rattle.tag_rule.specs.Listed.{is_unused}
use Rattle.reclaim.specs.State.{LockedShown, IsLocked, IsNamed, part_of, is_still}
use Rattle.reclaim.specs.Steps.{Reads, with_listing}
use Rattle.reclaim.specs.Sweeps.{Unloaded, released, with_entries}
use Rattle.reclaim.proofs.Clean.{part_after, with_part}
use Rattle.reclaim.proofs.Enter.{id_of}
use Rattle.reclaim.proofs.Reading.{IsInRecord, reads_above_zero, reads_account, reads_keep, reads_some, reads_within}

-- ---- one module alone is swept: it is left on the list, or has the one stop

pub data OneSwept (id : ℕ) (p : ListPart) : Type 0 where
  goes : p.stops ≡ [] → p.sweep ≡ sweep.Done (id ∷ []) → OneSwept id p
  stays : (s : Stop) → p.stops ≡ s ∷ [] → s.id ≡ id → s.sum ≢ 0 → OneSwept id p

only_id : (id : ℕ) (ids : List ℕ) → length ids ≤ 1 → is_listed ids id ≡ true → ids ≡ id ∷ []
only_id id [] few there = absurd (false≢true there)
only_id id (x ∷ y ∷ ids) few there = absurd (omega (arith, few))
only_id id (x ∷ []) few there = go (x == id) refl there
  where
    go : (b : Bool) → (x == id) ≡ b → (b || false) ≡ true → x ∷ [] ≡ id ∷ []
    go true is h = ap (λ y. y ∷ []) (eqb-true x id is)
    go false is h = absurd (false≢true h)

no_id : (id : ℕ) (ids : List ℕ) → length ids ≤ 0 → is_listed ids id ≡ false
no_id id [] few = refl
no_id id (x ∷ ids) few = absurd (omega (arith, few))

done_of : (id : ℕ) (s : Sweep) → is_still s ≡ true → ids_left s ≡ id ∷ [] → s ≡ sweep.Done (id ∷ [])
done_of id sweep.None still ids = absurd (cc)
done_of id (sweep.Reading left r) still ids = absurd (false≢true still)
done_of id (sweep.Done left) still ids = ap (λ l. sweep.Done l) ids

its_id : (id : ℕ) (s : Stop) → (false || ((s.id == id) || false)) ≡ true → s.id ≡ id
its_id id s h = go (s.id == id) refl h
  where
    go : (b : Bool) → (s.id == id) ≡ b → (b || false) ≡ true → s.id ≡ id
    go true is h = eqb-true s.id id is
    go false is h = absurd (false≢true h)

not_0 : (n : ℕ) → (not (n == 0) && true) ≡ true → n ≢ 0
not_0 n h is = false≢true (sym (ap (λ b. not b && true) (eq-eqb n 0 is)) ∙ h)

pub one_swept : (id : ℕ) (p : ListPart) → is_still p.sweep ≡ true → (is_listed (ids_left p.sweep) id || has_stop id p.stops) ≡ true → length p.stops + length (ids_left p.sweep) ≤ 1 → are_above_zero p.stops ≡ true → OneSwept id p
one_swept id p still here few sums = go p.stops refl here few sums
  where
    go : (stops : List Stop) → p.stops ≡ stops → (is_listed (ids_left p.sweep) id || has_stop id stops) ≡ true → length stops + length (ids_left p.sweep) ≤ 1 → are_above_zero stops ≡ true → OneSwept id p
    go [] is here few sums = goes is (done_of id p.sweep still (only_id id (ids_left p.sweep) (omega (arith, few)) (or_false (is_listed (ids_left p.sweep) id) here)))
      where
        or_false : (b : Bool) → (b || false) ≡ true → b ≡ true
        or_false true h = refl
        or_false false h = h
    go (s ∷ []) is here few sums = stays s is (its_id id s (subst (λ b. (b || ((s.id == id) || false)) ≡ true) (no_id id (ids_left p.sweep) (omega (arith, few))) here)) (not_0 s.sum sums)
    go (a ∷ b ∷ stops) is here few sums = absurd (omega (arith, few))

-- a loaded entry with no users
abbrev pub IsReady : Entry → Type 0
IsReady e = (e.state ≡ Loaded) × (e.users ≡ 0)

-- ---- the book, with the module dead

abbrev pub marked : ℕ → LockedShown → LockedShown
marked id l = record l { area = with_entries (with_entry id kept l.area.entries) l }

records_marked : (l : LockedShown) (id : ℕ) → (marked_dead id (listing_of (part_of l))).records ≡ map record_of (with_entry id kept l.area.entries)
records_marked l id =
    let ls : ListState = record { area = l.area; last_id = 0; sweep = l.sweep; stops = l.stops } in
    sym (ap (λ (x : Listing). x.records) (listed_dead ls id))

named_marked : (sections : List Section) (id : ℕ) (entries : List Entry) → All (IsNamed sections) entries → All (IsNamed sections) (with_entry id kept entries)
named_marked sections id entries all =
    All-map (IsNamed sections) (λ (e : Entry). cond (e.id == id) (kept e) e) entries (All-weaker (IsNamed sections) (λ e. IsNamed sections (cond (e.id == id) (kept e) e)) (λ e h. cond_both (e.id == id) (kept e) e (IsNamed sections) (λ is. h) (λ is. h)) entries all)

pub locked_marked : (l : LockedShown) (id : ℕ) → IsLocked l → IsBook (with_entries (with_entry id kept l.area.entries) l) → IsLocked (marked id l)
locked_marked l id ok book = record { checked = ok.checked; book = book; first = ok.first; within = ok.within; named = named_marked l.sections id l.area.entries ok.named; still = ok.still }

without_kept : (id : ℕ) (es : List Entry) → without_entry id (with_entry id kept es) ≡ without_entry id es
without_kept id [] = refl
without_kept id (e ∷ es) = go (e.id == id) refl (without_kept id es)
  where
    go : (b : Bool) → (e.id == id) ≡ b → without_entry id (with_entry id kept es) ≡ without_entry id es → cond (not ((cond b (kept e) e).id == id)) (cond b (kept e) e ∷ without_entry id (with_entry id kept es)) (without_entry id (with_entry id kept es)) ≡ cond (not b) (e ∷ without_entry id es) (without_entry id es)
    go true is later = cond-false (not (e.id == id)) (kept e ∷ without_entry id (with_entry id kept es)) (without_entry id (with_entry id kept es)) (ap not is) ∙ later
    go false is later = cond-true (not (e.id == id)) (e ∷ without_entry id (with_entry id kept es)) (without_entry id (with_entry id kept es)) (ap not is) ∙ ap (λ xs. e ∷ xs) later

-- ---- its range stays

abbrev has_tag : ℕ → ℕ → Record → Bool
has_tag id tag r = (r.id == id) && in_range r.start r.length tag

same_ranges : (id other tag : ℕ) (records : List Record) → list_any (has_tag other tag) (with_record id dead_record records) ≡ list_any (has_tag other tag) records
same_ranges id other tag [] = refl
same_ranges id other tag (r ∷ rs) = (λ i. same (r.id == id) i || same_ranges id other tag rs i)
  where
    same : (b : Bool) → has_tag other tag (cond b (dead_record r) r) ≡ has_tag other tag r
    same true = refl
    same false = refl

stop_of_entry : (area : Area) (id : ℕ) (e : Entry) (s : Stop) → IsBook area → entry_of area.entries id ≡ Some e → IsInRecord (with_record id dead_record (map record_of area.entries)) s → s.id ≡ id → Covers e s.tag
stop_of_entry area id e s book found there its_id =
    let was : IsInRecord (map record_of area.entries) s = sym (same_ranges id s.id s.tag (map record_of area.entries)) ∙ there in
    let t = the_entry area s.id (λ (r : Record). in_range r.start r.length s.tag) book was in
    let same : t.entry ≡ e = same_Some t.entry e (sym t.is ∙ (ap (entry_of area.entries) its_id ∙ found)) in
    subst (λ (x : Entry). Covers x s.tag) same (in_range_means t.entry.start t.entry.length s.tag t.passes)

-- a stop of the id tells a tag of the entry's range
abbrev pub IsOfEntry : ℕ → Entry → Stop → Type 0
IsOfEntry id e s = s.id ≡ id → Covers e s.tag

stops_of_entry : (area : Area) (id : ℕ) (e : Entry) (k : Shape) (from p : ListPart) → IsBook area → entry_of area.entries id ≡ Some e → from.records ≡ with_record id dead_record (map record_of area.entries) → from.stops ≡ [] → Reads k from p → All (IsOfEntry id e) p.stops
stops_of_entry area id e k from p book found records none reads =
    let begun : All (IsInRecord from.records) from.stops = subst (λ st. All (IsInRecord from.records) st) (sym none) (All-nil (IsInRecord from.records)) in
    let marks = with_record id dead_record (map record_of area.entries) in
    All-weaker (IsInRecord marks) (IsOfEntry id e) (λ s h. stop_of_entry area id e s book found h) p.stops
    (subst (λ rs. All (IsInRecord rs) p.stops) ((reads_keep k from p reads).records ∙ records) (reads_within k from p reads begun))

-- ---- the sweep

pub record UnloadSwept (l : LockedShown) (id : ℕ) (e : Entry) (p : ListPart) : Type 0 where
  pub ends : OneSwept id p
  pub within : All (IsOfEntry id e) p.stops
  pub part : p ≡ part_of (with_part p (marked id l))
  pub most : p.reads ≤ l.reads + 2 * l.board.shape.cpus * e.length
  pub some : l.reads < p.reads

pub unload_swept : (l : LockedShown) (id : ℕ) (e : Entry) (p : ListPart) → IsLocked l → entry_of l.area.entries id ≡ Some e → e.state ≡ Loaded → e.users ≡ 0
    → Reads l.board.shape (with_listing (marked_dead id) (part_of l)) p → is_still p.sweep ≡ true → UnloadSwept l id e p
unload_swept l id e p ok found loaded unused reads still =
    let k = l.board.shape in
    let from = with_listing (marked_dead id) (part_of l) in
    let rises = book_rises l.area ok.book in
    let there = record_found l.area.entries id e found in
    let live : is_dead e.state ≡ false = ap is_dead loaded in
    let r = record_of e in
    let its = record_at (map record_of l.area.entries) id r rises there in
    let of : List Record → ℕ → ListPart = λ rs i. record { records = rs; sweep = begins_pass Bytes (i ∷ []) rs; stops = []; reads = l.reads; away = [] } in
    let row : MarksDead (part_of l) from = record {
      front = its.front;
      entry = r;
      back = its.back;
      there = its.is;
      loaded = live;
      unused = unused;
      after = ap (λ rs. of rs id) (its.changed dead_record) ∙ ap (of (its.front ++ dead_record r ∷ its.back)) (sym its.same_id);
    } in
    let keep = reads_keep k from p reads in
    let accounted = subst (λ i. is_accounted i p ≡ true) its.same_id (reads_account k from p row.entry.id reads (marks_account (part_of l) from row)) in
    let records : p.records ≡ map record_of (with_entry id kept l.area.entries) = keep.records ∙ records_marked l id in
    let at = book_entry_at l.area id e ok.book found in
    let test : Record → Bool = λ r. (r.id == id) && r.dead in
    let dead : list_any test p.records ≡ true = subst (λ rs. list_any test rs ≡ true) (sym (records ∙ records_changed l.area.entries id e kept at)) (any_at test (map record_of at.front) (record_of (kept e)) (map record_of at.back) (and_from _ _ (eq-eqb e.id id at.same_id) refl)) in
    record {
      ends = one_swept id p still (accounted_here _ _ _ accounted dead) (omega (arith, keep.few)) (reads_above_zero k from p reads refl);
      within = stops_of_entry l.area id e k from p ok.book found refl refl reads;
      part = part_after (marked id l) k from p (records_marked l id) refl reads;
      most = omega (arith, keep.bound, marks_at_most k (part_of l) from rises row);
      some = reads_some k from p reads refl still;
    }
  where
    accounted_here : (d l s : Bool) → (not d || l || s) ≡ true → d ≡ true → (l || s) ≡ true
    accounted_here true l s h is = h
    accounted_here false l s h is = absurd (false≢true is)

-- a loaded entry with no users is one that may be marked dead
pub unused_there : (l : LockedShown) (id : ℕ) (e : Entry) (p : ListPart) → IsLocked l → entry_of l.area.entries id ≡ Some e → e.state ≡ Loaded → e.users ≡ 0 → p ≡ part_of l → is_unused id p.records ≡ true
unused_there l id e p ok found loaded unused part =
    let at = book_entry_at l.area id e ok.book found in
    let test : Record → Bool = λ r. (r.id == id) && (not r.dead && (r.users == 0)) in
    subst (λ rs. list_any test rs ≡ true) (sym (ap (λ (x : ListPart). x.records) part ∙ records_at l.area.entries id e at))
    (any_at test (map record_of at.front) (record_of e) (map record_of at.back) (and_from _ _ (eq-eqb e.id id at.same_id) (and_from _ _ (ap (λ s. not (is_dead s)) loaded) (eq-eqb e.users 0 unused))))

-- the same of the list's seat, step by step
pub record UnloadRead (l : LockedShown) (id : ℕ) (e : Entry) (read : ListShown) : Type 0 where
  pub board : read.board ≡ l.board
  pub swept : UnloadSwept l id e read.part

pub unload_read : (l : LockedShown) (id : ℕ) (e : Entry) (was begun read : ListShown) → IsLocked l → entry_of l.area.entries id ≡ Some e → IsReady e → was.board ≡ l.board → was.part ≡ part_of l
    → begun ≡ record was { part = with_listing (marked_dead id) was.part } → read.board ≡ begun.board → Reads begun.board.shape begun.part read.part → is_still read.part.sweep ≡ true → UnloadRead l id e read
unload_read l id e was begun read ok found ready board part is same reads still =
    let begun_board : begun.board ≡ l.board = ap (λ (x : ListShown). x.board) is ∙ board in
    let begun_part : begun.part ≡ with_listing (marked_dead id) (part_of l) = ap (λ (x : ListShown). x.part) is ∙ ap (with_listing (marked_dead id)) part in
    let from_l : Reads l.board.shape (with_listing (marked_dead id) (part_of l)) read.part = subst (λ (x : ListPart). Reads l.board.shape x read.part) begun_part (subst (λ (b : Board). Reads b.shape begun.part read.part) begun_board reads) in
    record { board = same ∙ begun_board; swept = unload_swept l id e read.part ok found ready.0 ready.1 from_l still }

-- ---- the answer

pub ready_at : (l : LockedShown) (id : ℕ) (e : Entry) → entry_of l.area.entries id ≡ Some e → IsSomeAnd (entry_of l.area.entries id) IsReady → IsReady e
ready_at l id e found ready = subst (λ o. IsSomeAnd o IsReady) found ready

same_first : (s stop : Stop) → slice_get (s ∷ []) 0 ≡ Some stop → s ≡ stop
same_first s stop is = cc

stop_with : (s stop : Stop) (id : ℕ) → s ≡ stop → s.id ≡ id → s ∷ [] ≡ record { id = id; tag = stop.tag; kind = stop.kind; sum = stop.sum } ∷ []
stop_with s stop id same its_id = λ i. record { id = its_id i; tag = (same i).tag; kind = (same i).kind; sum = (same i).sum } ∷ []

unloaded_kept : (l new : LockedShown) (e : Entry) (p : ListPart) (stop : Stop) → UnloadSwept l e.id e p → slice_get p.stops 0 ≡ Some stop → new ≡ with_part p (marked e.id l) → Unloaded e l new (Kept stop.tag stop.kind stop.sum)
unloaded_kept l new e p stop swept first is = subst (λ (x : LockedShown). Unloaded e l x (Kept stop.tag stop.kind stop.sum)) (sym is) (go swept.ends)
  where
    go : OneSwept e.id p → Unloaded e l (with_part p (marked e.id l)) (Kept stop.tag stop.kind stop.sum)
    go (goes none done) = absurd (none-some stop (sym (ap (λ st. slice_get st 0) none) ∙ first))
    go (stays s one its_id sum) =
        let same = same_first s stop (sym (ap (λ st. slice_get st 0) one) ∙ first) in
        record {
          board = refl;
          sections = refl;
          ends = (refl, one ∙ stop_with s stop e.id same its_id, λ zero. sum (ap (λ (x : Stop). x.sum) same ∙ zero));
          within = subst (λ (x : Stop). Covers e x.tag) same (All-head (IsOfEntry e.id e) s [] (subst (λ st. All (IsOfEntry e.id e) st) one swept.within) its_id);
          most = swept.most;
          some = swept.some;
        }

unloaded_gone : (l new : LockedShown) (e : Entry) (p : ListPart) → UnloadSwept l e.id e p → slice_get p.stops 0 ≡ None → new ≡ released e.id (with_part p (marked e.id l)) → Unloaded e l new Released
unloaded_gone l new e p swept first is = subst (λ (x : LockedShown). Unloaded e l x Released) (sym is) (go swept.ends)
  where
    go : OneSwept e.id p → Unloaded e l (released e.id (with_part p (marked e.id l))) Released
    go (goes none done) = record {
      board = refl;
      sections = refl;
      ends = (ap (λ es. with_entries es l) (without_kept e.id l.area.entries), none);
      within = tt;
      most = swept.most;
      some = swept.some;
    }
    go (stays s one its_id sum) = absurd (none-some s (sym first ∙ ap (λ st. slice_get st 0) one))

pub release_first : (id : ℕ) (p : ListPart) → OneSwept id p → slice_get p.stops 0 ≡ None → releasable p.sweep ≡ Some id
release_first id p (goes none done) first = ap releasable done
release_first id p (stays s one its_id sum) first = absurd (none-some s (sym first ∙ ap (λ st. slice_get st 0) one))

-- of whichever entry the id has
pub kept_as : (old l new : LockedShown) (id : ℕ) (p : ListPart) (stop : Stop) → l ≡ old → slice_get p.stops 0 ≡ Some stop → new ≡ with_part p (marked id l)
    → ((e : Entry) → entry_of l.area.entries id ≡ Some e → UnloadSwept l id e p) → (e : Entry) → entry_of old.area.entries id ≡ Some e → Unloaded e old new (Kept stop.tag stop.kind stop.sum)
kept_as old l new id p stop is_old first is swept e found =
    let found_l = subst (λ (x : LockedShown). entry_of x.area.entries id ≡ Some e) (sym is_old) found in
    let same = sym (id_of l id e found_l) in
    subst (λ (x : LockedShown). Unloaded e x new (Kept stop.tag stop.kind stop.sum)) is_old
    (unloaded_kept l new e p stop (subst (λ i. UnloadSwept l i e p) same (swept e found_l)) first (is ∙ ap (λ i. with_part p (marked i l)) same))

pub gone_as : (old l new : LockedShown) (id : ℕ) (p : ListPart) → l ≡ old → slice_get p.stops 0 ≡ None → new ≡ released id (with_part p (marked id l))
    → ((e : Entry) → entry_of l.area.entries id ≡ Some e → UnloadSwept l id e p) → (e : Entry) → entry_of old.area.entries id ≡ Some e → Unloaded e old new Released
gone_as old l new id p is_old first is swept e found =
    let found_l = subst (λ (x : LockedShown). entry_of x.area.entries id ≡ Some e) (sym is_old) found in
    let same = sym (id_of l id e found_l) in
    subst (λ (x : LockedShown). Unloaded e x new Released) is_old
    (unloaded_gone l new e p (subst (λ i. UnloadSwept l i e p) same (swept e found_l)) first (is ∙ ap (λ i. released i (with_part p (marked i l))) same))

-- whatever it answers, the table is the same
pub unload_board : (old new : LockedShown) (id : ℕ) (answer : Result Reclaim UnloadError) → MatchOption (unload_refusal id old.area.entries) (IsOk answer) (λ why. answer ≡ Err why)
    → IfOk answer (λ a. (e : Entry) → entry_of old.area.entries id ≡ Some e → Unloaded e old new a) → OnErr answer (new ≡ old) → new.board ≡ old.board
unload_board old new id (Err why) told unloaded err = ap (λ (l : LockedShown). l.board) err
unload_board old new id (Ok a) told unloaded err = go (entry_of old.area.entries id) refl told
  where
    go : (o : Option Entry) → entry_of old.area.entries id ≡ o → MatchOption (refused o) (IsOk {T = Reclaim} {E = UnloadError} (Ok a)) (λ why. ◌≡◌ {A = Result Reclaim UnloadError} (Ok a) (Err why)) → new.board ≡ old.board
    go None is told = absurd (ok_err told)
      where
        ok_err : {why : UnloadError} → ◌≡◌ {A = Result Reclaim UnloadError} (Ok a) (Err why) → ⊥
        ok_err e = cc
    go (Some e) is told = (unloaded e is).board
