-- Releases, one after another: what goes, and what stays.
use Rattle.std.proofs.Common.{◌≡◌, ℕ, ◌+◌, ◌<◌, ◌≤◌, ◌==◌, ◌&&◌, ◌||◌, List, [], ◌∷◌, length, filter, map, Option, None, Some, IsSomeAnd, refl, sym, ap, ◌∙◌, subst, arith, Bool, true, false, not, cond, eqb-true, eq-eqb, ne_eqb}
use Rattle.std.proofs.lemmas.Bool.{or_left, cond-true, cond-false, false≢true}
use Rattle.std.proofs.lemmas.Option.{same_Some}
use Rattle.tag_model.specs.declared.state.Record.{Record}
use Rattle.tag_model.specs.declared.state.Sweep.TheVariants as sweep
use Rattle.tag_model.specs.Laws.{ids_of, is_listed, rises_from}
use Rattle.tag_model.specs.StepRules as rules
use Rattle.tag_model.specs.StepRules.{without_id}
use Rattle.tag_model.specs.Sweeping.{has_stop, ids_left, is_accounted, is_off}
use Rattle.tag_model.proofs.Accounted.{releases_account, releases_off}
use Rattle.tag_model.proofs.Ids.{rises_cons}
use Rattle.tag_model.proofs.SweepSteps.{without_shorter}
use Rattle.module_area.specs.declared.entry.Entry.{Entry}
use Rattle.module_area.specs.declared.entry.State.TheVariants.{Dead}
use Rattle.module_area.specs.Entries.{entry_of, is_dead, without_entry}
use Rattle.module_area.specs.Area.{Area, IsBook}
use Rattle.module_area.proofs.EntryLemmas.{find_some}
use Rattle.module_area.proofs.BookLemmas.{IsBook-filter}
use Rattle.module_list.specs.Listing.{releasable}
use Rattle.core_list.specs.ListState.{record_of}
use Rattle.core_list.proofs.Methods.{releasing}
use Rattle.core_list.proofs.Split.{book_rises, records_without}
use Rattle.reclaim.specs.State.{LockedShown, part_of, is_still}
use Rattle.reclaim.specs.Sweeps.{Releases, no_release, then_release, released, is_kept, with_entries}

-- ---- one entry goes

none_without : (id low : ℕ) (entries : List Entry) → id ≤ low → rises_from low (ids_of (map record_of entries)) ≡ true → without_entry id entries ≡ entries
none_without id low [] h e = refl
none_without id low (x ∷ xs) h e =
    let both = rises_cons low x.id (ids_of (map record_of xs)) e in
    let other = ne_eqb x.id id (λ same. omega (arith, both.0)) in
    cond-true (not (x.id == id)) (x ∷ without_entry id xs) (without_entry id xs) (ap not other) ∙ ap (λ es. x ∷ es) (none_without id x.id xs (omega (arith, both.0)) both.1)

-- the entry of the id alone goes
pub record Gone (id : ℕ) (e : Entry) (entries : List Entry) : Type 0 where
  pub kept : (keep : Entry → Bool) → keep e ≡ false → filter keep (without_entry id entries) ≡ filter keep entries
  pub count : length (without_entry id entries) + 1 ≡ length entries

pub gone : (low id : ℕ) (e : Entry) (entries : List Entry) → rises_from low (ids_of (map record_of entries)) ≡ true → entry_of entries id ≡ Some e → Gone id e entries
gone low id e [] rises found = absurd (cc)
gone low id e (x ∷ xs) rises found =
    let both = rises_cons low x.id (ids_of (map record_of xs)) rises in
    go (x.id == id) refl found both.1 (λ later. gone x.id id e xs both.1 later)
  where
    go : (b : Bool) → (x.id == id) ≡ b → cond b (Some x) (entry_of xs id) ≡ Some e → rises_from x.id (ids_of (map record_of xs)) ≡ true → (entry_of xs id ≡ Some e → Gone id e xs) → Gone id e (x ∷ xs)
    go true is found rises later =
        let same : x ≡ e = same_Some x e found in
        let rest : without_entry id xs ≡ xs = none_without id x.id xs (omega (arith, eqb-true x.id id is)) rises in
        let whole : without_entry id (x ∷ xs) ≡ xs = cond-false (not (x.id == id)) (x ∷ without_entry id xs) (without_entry id xs) (ap not is) ∙ rest in
        record { kept = λ keep off. ap (filter keep) whole ∙ sym (cond-false (keep x) (x ∷ filter keep xs) (filter keep xs) (ap keep same ∙ off)); count = omega (arith, ap length whole) }
    go false is found rises later =
        let l = later found in
        let whole : without_entry id (x ∷ xs) ≡ x ∷ without_entry id xs = cond-true (not (x.id == id)) (x ∷ without_entry id xs) (without_entry id xs) (ap not is) in
        record { kept = λ keep off. ap (filter keep) whole ∙ ap (λ es. cond (keep x) (x ∷ es) es) (l.kept keep off); count = omega (arith, ap length whole, l.count) }

-- what an option that isn't empty has
pub record SomeAnd (o : Option Entry) (P : Entry → Type 0) : Type 0 where
  pub entry : Entry
  pub is : o ≡ Some entry
  pub holds : P entry

pub some_and : (o : Option Entry) (P : Entry → Type 0) → IsSomeAnd o P → SomeAnd o P
some_and None P h = elim h [ ]
some_and (Some e) P h = record { entry = e; is = refl; holds = h }

-- ---- all releases

pub release_shorter : (l : LockedShown) (id : ℕ) → releasable l.sweep ≡ Some id → length (ids_left (released id l).sweep) < length (ids_left l.sweep)
release_shorter l id first =
    let r = releasing l.sweep id (sym first) in
    without_shorter id (ids_left l.sweep) (subst (λ s. is_listed (ids_left s) id ≡ true) (sym r.done) (or_left _ _ (eq-eqb id id refl)))

-- each release takes one entry
pub record AreFewer (old new : LockedShown) (count : ℕ) : Type 0 where
  pub fewer : count + length new.area.entries ≡ length old.area.entries
  pub book : IsBook new.area

pub releases_fewer : (old new : LockedShown) (count : ℕ) → IsBook old.area → Releases old count new → AreFewer old new count
releases_fewer old new count book no_release = record { fewer = omega arith; book = book }
releases_fewer old new count book (then_release {count = n} {mid} id before first dead) =
    let m = releases_fewer old mid n book before in
    let d = some_and (entry_of mid.area.entries id) (λ e. e.state ≡ Dead) dead in
    record {
      fewer = omega (arith, m.fewer, (gone 0 id d.entry mid.area.entries (book_rises mid.area m.book) d.is).count);
      book = IsBook-filter mid.area.entries mid.area.first mid.area.tags m.book (λ e. not (e.id == id));
    }

-- what stays of a list whose dead modules are on the sweep's list or have a stop
pub record AreGone (old new : LockedShown) (count : ℕ) : Type 0 where
  pub board : new.board ≡ old.board
  pub sections : new.sections ≡ old.sections
  pub stops : new.stops ≡ old.stops
  pub reads : new.reads ≡ old.reads
  pub area : new.area ≡ with_entries new.area.entries old
  pub book : IsBook new.area
  pub fewer : count + length new.area.entries ≡ length old.area.entries
  pub kept : filter (is_kept old.stops) new.area.entries ≡ filter (is_kept old.stops) old.area.entries
  pub accounted : (id : ℕ) → is_accounted id (part_of new) ≡ true
  pub off : (id : ℕ) → is_off id (part_of new) ≡ true

-- an id on the list has no stop
no_stop : (l s : Bool) → not (l && s) ≡ true → l ≡ true → s ≡ false
no_stop true false off listed = refl
no_stop true true off listed = absurd (false≢true off)
no_stop false s off listed = absurd (false≢true listed)

dead_false : (e : Entry) (s : Bool) → e.state ≡ Dead → s ≡ false → (not (is_dead e.state) || s) ≡ false
dead_false e s dead none = subst (λ x. (not (is_dead x) || s) ≡ false) (sym dead) none

pub releases_are : (old new : LockedShown) (count : ℕ) → IsBook old.area → ((id : ℕ) → is_accounted id (part_of old) ≡ true) → ((id : ℕ) → is_off id (part_of old) ≡ true) → Releases old count new → AreGone old new count
releases_are old new count book accounted off no_release =
    record { board = refl; sections = refl; stops = refl; reads = refl; area = refl; book = book; fewer = omega arith; kept = refl; accounted = accounted; off = off }
releases_are old new count book accounted off (then_release {count = n} {mid} id before first dead) =
    let m = releases_are old mid n book accounted off before in
    let r = releasing mid.sweep id (sym first) in
    let d = some_and (entry_of mid.area.entries id) (λ e. e.state ≡ Dead) dead in
    let g = gone 0 id d.entry mid.area.entries (book_rises mid.area m.book) d.is in
    let listed : is_listed (id ∷ r.rest) id ≡ true = or_left _ _ (eq-eqb id id refl) in
    let after : part_of (released id mid) ≡ record (part_of mid) { records = filter (λ (x : Record). not (x.id == id)) (map record_of mid.area.entries); sweep = sweep.Done (without_id id (id ∷ r.rest)) } =
    (λ i. record { records = (records_without id mid.area.entries) i; sweep = sweep.Done (without_id id (ids_left (r.done i))); stops = mid.stops; reads = mid.reads; away = [] }) in
    let row : rules.Releases (id ∷ r.rest) id (part_of mid) (part_of (released id mid)) = record { done = r.done; listed = listed; after = after } in
    let off_here : has_stop id old.stops ≡ false = no_stop (is_listed (id ∷ r.rest) id) (has_stop id old.stops)
    (subst (λ st. not (is_listed (id ∷ r.rest) id && has_stop id st) ≡ true) m.stops (subst (λ sw. not (is_listed (ids_left sw) id && has_stop id mid.stops) ≡ true) r.done (m.off id))) listed in
    let same_id : d.entry.id ≡ id = eqb-true d.entry.id id (find_some (λ (x : Entry). x.id == id) mid.area.entries d.entry d.is).1 in
    let lost : is_kept old.stops d.entry ≡ false = dead_false d.entry (has_stop d.entry.id old.stops) d.holds (ap (λ i. has_stop i old.stops) same_id ∙ off_here) in
    record {
      board = m.board;
      sections = m.sections;
      stops = m.stops;
      reads = m.reads;
      area = ap (λ (a : Area). let b : Area = record a { entries = without_entry id mid.area.entries } in b) m.area;
      book = IsBook-filter mid.area.entries mid.area.first mid.area.tags m.book (λ e. not (e.id == id));
      fewer = omega (arith, m.fewer, g.count);
      kept = g.kept (is_kept old.stops) lost ∙ m.kept;
      accounted = λ i. releases_account (id ∷ r.rest) id (part_of mid) (part_of (released id mid)) i row (m.accounted i);
      off = λ i. releases_off (id ∷ r.rest) id (part_of mid) (part_of (released id mid)) i row (m.off i);
    }

pub releases_still : (old new : LockedShown) (count : ℕ) → is_still old.sweep ≡ true → Releases old count new → is_still new.sweep ≡ true
releases_still old new count still no_release = still
releases_still old new count still (then_release id before first dead) = refl
