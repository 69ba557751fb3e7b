-- What a method leaves in the parts of the list is what the change says.
use Rattle.std.proofs.Common.{◌≡◌, ℕ, ◌+◌, ◌<◌, ◌≤◌, ◌==◌, nat_lt, List, [], ◌∷◌, map, All, Option, None, Some, IsSome, IsSomeAnd, refl, sym, ap, ◌∙◌, subst, arith, Bool, true, false, cond, eq-eqb, lt-ltb}
use Rattle.std.specs.List.{list_all}
use Rattle.std.proofs.lemmas.Bool.{and_from, and_parts, or_left, false≢true}
use Rattle.std.proofs.lemmas.List.Elements.{All-head, All-tail, All-weaker}
use Rattle.tag_model.specs.declared.shape.Shape.{Shape}
use Rattle.tag_model.specs.declared.state.Record.{Record}
use Rattle.tag_model.specs.declared.state.Sweep.{Sweep}
use Rattle.tag_model.specs.declared.state.Sweep.TheVariants as sweep
use Rattle.tag_model.specs.Laws.{are_dead, sweep_fits}
use Rattle.module_area.specs.declared.entry.Entry.{Entry}
use Rattle.module_area.specs.declared.entry.State.{State}
use Rattle.module_area.specs.declared.entry.State.TheVariants.{Loaded, Dead}
use Rattle.module_area.specs.Entries.{entry_of, is_dead, without_entry}
use Rattle.module_area.specs.Area.{Area, IsBook}
use Rattle.module_list.specs.Listing.{Listing, bare, bare_record, may_release, record_in, releasable}
use Rattle.module_list.proofs.Bare.{fits_bare}
use Rattle.core_list.specs.ListState.{ListState, left_ids, listed, record_of, released, released_at, read_to, read_to_at, scanned, scanned_at}
use Rattle.core_list.proofs.Split.{the_entry}

-- the list by its fields
abbrev pub state_of : Area → ℕ → Listing → ListState
state_of area last list = record { area = area; last_id = last; sweep = list.sweep; stops = list.stops }

-- what is kept at run time is what the list lists, without the users
abbrev pub Keeps : Area → Listing → Type 0
Keeps area list = list.records ≡ map bare_record (map record_of area.entries)

pub kept_is : (area : Area) (last : ℕ) (list : Listing) → Keeps area list → list ≡ bare (listed (state_of area last list))
kept_is area last list keeps = ap (λ rs. let x : Listing = record { records = rs; sweep = list.sweep; stops = list.stops } in x) keeps

-- a change of both
pub goes_along : (l m : ListState) (old new : Listing) (change : Listing → Listing) → old ≡ bare (listed l) → new ≡ change old → listed m ≡ change (listed l) → bare (change (listed l)) ≡ change (bare (listed l)) → new ≡ bare (listed m)
goes_along l m old new change was is same along = is ∙ (ap change was ∙ (sym along ∙ ap bare (sym same)))

-- the fields are then those of the list after the change
pub fields_are : (m : ListState) (area : Area) (last : ℕ) (new : Listing) → ◌≡◌ {A = Area} area m.area → last ≡ m.last_id → new ≡ bare (listed m) → ◌≡◌ {A = ListState} (state_of area last new) m
fields_are m area last new areas lasts is = ap (state_of area last) is ∙ (ap (λ n. state_of area n (bare (listed m))) lasts ∙ ap (λ a. state_of a m.last_id (bare (listed m))) areas)

pub still_kept : (m : ListState) (area : Area) (new : Listing) → ◌≡◌ {A = Area} area m.area → new ≡ bare (listed m) → Keeps area new
still_kept m area new areas is = ap (λ (x : Listing). x.records) is ∙ ap (λ (a : Area). map bare_record (map record_of a.entries)) (sym areas)

-- ---- the release

dead_means : (s : State) → is_dead s ≡ true → s ≡ Dead
dead_means Loaded e = absurd (false≢true e)
dead_means Dead e = refl

-- the module that is released is dead
pub releases_dead : (area : Area) (s : Sweep) (id : ℕ) (rest : List ℕ) → IsBook area → s ≡ sweep.Done (id ∷ rest) → are_dead (left_ids s) (map record_of area.entries) ≡ true → IsSomeAnd (entry_of area.entries id) (λ e. e.state ≡ Dead)
releases_dead area s id rest book done dead =
    let all = subst (λ x. are_dead (left_ids x) (map record_of area.entries) ≡ true) done dead in
    let one = the_entry area id (λ (x : Record). x.dead) book (and_parts _ (are_dead rest (map record_of area.entries)) all).0 in
    subst (λ o. IsSomeAnd o (λ e. e.state ≡ Dead)) (sym one.is) (dead_means one.entry.state one.passes)

-- the sweep that releases an id is done, and has it first on its list
pub record Releasing (s : Sweep) (id : ℕ) : Type 0 where
  pub rest : List ℕ
  pub done : s ≡ sweep.Done (id ∷ rest)

pub releasing : (s : Sweep) (id : ℕ) → Some id ≡ releasable s → Releasing s id
releasing sweep.None id e = absurd (cc)
releasing (sweep.Reading left r) id e = absurd (cc)
releasing (sweep.Done []) id e = absurd (cc)
releasing (sweep.Done (x ∷ rest)) id e = let same : x ≡ id = cc in record { rest = rest; done = ap (λ y. sweep.Done (y ∷ rest)) same }

pub may_release_first : (s : Sweep) (id : ℕ) → Some id ≡ releasable s → may_release id s ≡ true
may_release_first s id e = let first = releasing s id e in subst (λ x. may_release id x ≡ true) (sym first.done) (or_left _ _ (eq-eqb id id refl))

-- what a release leaves of the area, and of the last id
pub area_released : (l : ListState) (id : ℕ) (rest : List ℕ) → l.sweep ≡ sweep.Done (id ∷ rest) → ◌≡◌ {A = Area} (released l).area (record l.area { entries = without_entry id l.area.entries })
area_released l id rest done = ap (λ s. (released_at l s).area) done

pub last_released : (l : ListState) → (released l).last_id ≡ l.last_id
last_released l = go l.sweep
  where
    go : (s : Sweep) → (released_at l s).last_id ≡ l.last_id
    go sweep.None = refl
    go (sweep.Reading left r) = refl
    go (sweep.Done []) = refl
    go (sweep.Done (id ∷ left)) = refl

-- ---- a read

pub area_scanned : (k : Shape) (word : ℕ) (l : ListState) → ◌≡◌ {A = Area} (scanned k word l).area l.area
area_scanned k word l = go l.sweep
  where
    go : (s : Sweep) → ◌≡◌ {A = Area} (scanned_at k word l s).area l.area
    go sweep.None = refl
    go (sweep.Done left) = refl
    go (sweep.Reading left r) = refl

pub last_scanned : (k : Shape) (word : ℕ) (l : ListState) → (scanned k word l).last_id ≡ l.last_id
last_scanned k word l = go l.sweep
  where
    go : (s : Sweep) → (scanned_at k word l s).last_id ≡ l.last_id
    go sweep.None = refl
    go (sweep.Done left) = refl
    go (sweep.Reading left r) = refl

pub area_read_to : (cpu sum : ℕ) (l : ListState) → ◌≡◌ {A = Area} (read_to cpu sum l).area l.area
area_read_to cpu sum l = go l.sweep
  where
    go : (s : Sweep) → ◌≡◌ {A = Area} (read_to_at cpu sum l s).area l.area
    go sweep.None = refl
    go (sweep.Done left) = refl
    go (sweep.Reading left r) = refl

pub last_read_to : (cpu sum : ℕ) (l : ListState) → (read_to cpu sum l).last_id ≡ l.last_id
last_read_to cpu sum l = go l.sweep
  where
    go : (s : Sweep) → (read_to_at cpu sum l s).last_id ≡ l.last_id
    go sweep.None = refl
    go (sweep.Done left) = refl
    go (sweep.Reading left r) = refl

-- the sweep fits what is kept
pub fits_kept : (k : Shape) (area : Area) (list : Listing) → Keeps area list → sweep_fits k list.sweep (map record_of area.entries) ≡ true → sweep_fits k list.sweep list.records ≡ true
fits_kept k area list keeps fits = ap (sweep_fits k list.sweep) keeps ∙ (fits_bare k list.sweep (map record_of area.entries) ∙ fits)

-- ---- a load, and a dead mark

all_below : (id : ℕ) (entries : List Entry) → All (λ e. e.id < id) entries → list_all (λ (r : Record). nat_lt r.id id) (map bare_record (map record_of entries)) ≡ true
all_below id [] below = refl
all_below id (e ∷ es) below = and_from _ _ (lt-ltb e.id id (All-head (λ x. x.id < id) e es below)) (all_below id es (All-tail (λ x. x.id < id) e es below))

-- the next id is above all others
pub ids_below : (area : Area) (last : ℕ) (list : Listing) → Keeps area list → All (λ e. e.id ≤ last) area.entries → list_all (λ (r : Record). nat_lt r.id (last + 1)) list.records ≡ true
ids_below area last list keeps given =
    subst (λ rs. list_all (λ (r : Record). nat_lt r.id (last + 1)) rs ≡ true) (sym keeps) (all_below (last + 1) area.entries (All-weaker (λ e. e.id ≤ last) (λ e. e.id < last + 1) (λ e h. omega arith) area.entries given))

found_bare : (id : ℕ) (entries : List Entry) → IsSome (entry_of entries id) → IsSome (record_in id (map bare_record (map record_of entries)))
found_bare id [] e = e
found_bare id (x ∷ xs) e = go (x.id == id) e (λ later. found_bare id xs later)
  where
    go : (b : Bool) → IsSome (cond b (Some x) (entry_of xs id)) → (IsSome (entry_of xs id) → IsSome (record_in id (map bare_record (map record_of xs)))) → IsSome (cond b (Some (bare_record (record_of x))) (record_in id (map bare_record (map record_of xs))))
    go true e later = refl
    go false e later = later e

some_of : (o : Option Entry) (P : Entry → Type 0) → IsSomeAnd o P → IsSome o
some_of None P h = elim h [ ]
some_of (Some e) P h = refl

-- the id has a record
pub has_record : (area : Area) (list : Listing) (id : ℕ) → Keeps area list → (P : Entry → Type 0) → IsSomeAnd (entry_of area.entries id) P → IsSome (record_in id list.records)
has_record area list id keeps P h = subst (λ rs. IsSome (record_in id rs)) (sym keeps) (found_bare id area.entries (some_of (entry_of area.entries id) P h))
