-- Lists of ids that rise, as a sweep's list and the ids of the records, and the fields of the one record of an id.
use Rattle.std.proofs.Common.{◌≡◌, ℕ, ◌+◌, ◌<◌, ◌≤◌, ◌==◌, ◌&&◌, ◌⊎◌, nat_lt, List, [], ◌∷◌, ◌++◌, sum_by, count_by, filter, find, refl, sym, ◌∙◌, subst, inl, inr, arith, Bool, true, false, not, cond, Some, None, eqb-true, ltb-true, eq-eqb, lt-ltb, ltb-false, if◌then◌else◌}
use Rattle.std.specs.List.{list_any, list_all}
use Rattle.std.proofs.lemmas.Bool.{and_parts, and_from, or_cases, or_left, or_right, false≢true, not-true, eqb-false}
use Rattle.std.proofs.lemmas.List.Sums.{sum_by-cons}
use Rattle.tag_model.specs.declared.state.Record.{Record}
use Rattle.tag_model.specs.Laws.{is_listed, rises_from, are_dead}
use Rattle.tag_model.specs.StepRules.{start_of, end_of, without_id}
use Rattle.tag_model.proofs.Found.{Found, found_any, sum_at, any_at}
use Rattle.tag_model.proofs.Lists.{Apart}

-- ---- lists that rise

-- the first id and the others
pub rises_cons : (low id : ℕ) (ids : List ℕ) → rises_from low (id ∷ ids) ≡ true → (low < id) × (rises_from id ids ≡ true)
rises_cons low id ids e = let both = and_parts (nat_lt low id) (rises_from id ids) e in (ltb-true low id both.0, both.1)

pub rises_lower : (low high : ℕ) (ids : List ℕ) → low ≤ high → rises_from high ids ≡ true → rises_from low ids ≡ true
rises_lower low high [] h e = refl
rises_lower low high (id ∷ ids) h e = let both = rises_cons high id ids e in and_from _ _ (lt-ltb low id (omega (arith, both.0))) both.1

pub listed_cons : (id : ℕ) (ids : List ℕ) (other : ℕ) → is_listed (id ∷ ids) other ≡ true → (id ≡ other) ⊎ (is_listed ids other ≡ true)
listed_cons id ids other e = go (or_cases (id == other) (is_listed ids other) e)
  where
    go : ((id == other) ≡ true) ⊎ (is_listed ids other ≡ true) → (id ≡ other) ⊎ (is_listed ids other ≡ true)
    go (inl h) = inl (eqb-true id other h)
    go (inr h) = inr h

pub rises_above : (low : ℕ) (ids : List ℕ) (other : ℕ) → rises_from low ids ≡ true → is_listed ids other ≡ true → low < other
rises_above low [] other e h = absurd (false≢true h)
rises_above low (id ∷ ids) other e h =
    let both = rises_cons low id ids e in
    elim (listed_cons id ids other h) [ inl is ↦ omega (arith, both.0, is) | inr later ↦ omega (arith, both.0, rises_above id ids other both.1 later) ]

-- nothing on the list is above the id, where the search for the next finds none
pub find_none : (id : ℕ) (ids : List ℕ) (other : ℕ) → find (nat_lt id) ids ≡ None → is_listed ids other ≡ true → other ≤ id
find_none id [] other e h = absurd (false≢true h)
find_none id (x ∷ xs) other e h = none_head id x xs other (nat_lt id x) refl e (listed_cons x xs other h) (λ rest later. find_none id xs other rest later)
  where
    none_head : (id x : ℕ) (xs : List ℕ) (other : ℕ) (b : Bool) → nat_lt id x ≡ b → cond b (Some x) (find (nat_lt id) xs) ≡ None → (x ≡ other) ⊎ (is_listed xs other ≡ true)
        → (find (nat_lt id) xs ≡ None → is_listed xs other ≡ true → other ≤ id) → other ≤ id
    none_head id x xs other true is e listed later = cc
    none_head id x xs other false is e (inl same) later = omega (arith, ltb-false id x is, same)
    none_head id x xs other false is e (inr there) later = later e there

-- the next id is on the list, and nothing on it stands between
pub find_some : (low id : ℕ) (ids : List ℕ) (next : ℕ) → rises_from low ids ≡ true → find (nat_lt id) ids ≡ Some next → (is_listed ids next ≡ true) × ((other : ℕ) → is_listed ids other ≡ true → other < next → other ≤ id)
find_some low id [] next r e = cc
find_some low id (x ∷ xs) next r e =
    let both = rises_cons low x xs r in
    some_head id x xs next (nat_lt id x) refl both.1 e (λ rest. find_some x id xs next both.1 rest)
  where
    some_head : (id x : ℕ) (xs : List ℕ) (next : ℕ) (b : Bool) → nat_lt id x ≡ b → rises_from x xs ≡ true → cond b (Some x) (find (nat_lt id) xs) ≡ Some next
        → (find (nat_lt id) xs ≡ Some next → (is_listed xs next ≡ true) × ((other : ℕ) → is_listed xs other ≡ true → other < next → other ≤ id))
        → (is_listed (x ∷ xs) next ≡ true) × ((other : ℕ) → is_listed (x ∷ xs) other ≡ true → other < next → other ≤ id)
    some_head id x xs next true is r e later =
        let same : x ≡ next = cc in (
          or_left (x == next) (is_listed xs next) (eq-eqb x next same),
          λ other listed below. elim (listed_cons x xs other listed) [ inl here ↦ absurd (omega (arith, same, here, below)) | inr there ↦ absurd (omega (arith, same, below, rises_above x xs other r there)) ],
        )
    some_head id x xs next false is r e later =
        let rest = later e in (
          or_right (x == next) (is_listed xs next) rest.0,
          λ other listed below. elim (listed_cons x xs other listed) [ inl here ↦ omega (arith, ltb-false id x is, here) | inr there ↦ rest.1 other there below ],
        )

-- ---- filtered lists

pub all_filter : {X : Type 0} (p q : X → Bool) (xs : List X) → list_all p xs ≡ true → list_all p (filter q xs) ≡ true
all_filter p q [] e = refl
all_filter p q (x ∷ xs) e =
    let both = and_parts (p x) (list_all p xs) e in
    go (q x) both.0 (all_filter p q xs both.1)
  where
    go : (b : Bool) → p x ≡ true → list_all p (filter q xs) ≡ true → list_all p (cond b (x ∷ filter q xs) (filter q xs)) ≡ true
    go true here rest = and_from _ _ here rest
    go false here rest = rest

pub any_filter : {X : Type 0} (p q : X → Bool) (xs : List X) → list_any p (filter q xs) ≡ true → list_any (λ x. p x && q x) xs ≡ true
any_filter p q [] e = e
any_filter p q (x ∷ xs) e = go (q x) refl e (λ rest. any_filter p q xs rest)
  where
    go : (b : Bool) → q x ≡ b → list_any p (cond b (x ∷ filter q xs) (filter q xs)) ≡ true → (list_any p (filter q xs) ≡ true → list_any (λ y. p y && q y) xs ≡ true) → list_any (λ y. p y && q y) (x ∷ xs) ≡ true
    go true is e later = elim (or_cases (p x) (list_any p (filter q xs)) e) [ inl here ↦ or_left _ _ (and_from _ _ here is) | inr rest ↦ or_right _ _ (later rest) ]
    go false is e later = or_right _ _ (later e)

pub filter_any : {X : Type 0} (p q : X → Bool) (xs : List X) → list_any (λ x. p x && q x) xs ≡ true → list_any p (filter q xs) ≡ true
filter_any p q [] e = e
filter_any p q (x ∷ xs) e = go (q x) refl (or_cases (p x && q x) (list_any (λ y. p y && q y) xs) e) (λ rest. filter_any p q xs rest)
  where
    go : (b : Bool) → q x ≡ b → ((p x && q x) ≡ true) ⊎ (list_any (λ y. p y && q y) xs ≡ true) → (list_any (λ y. p y && q y) xs ≡ true → list_any p (filter q xs) ≡ true) → list_any p (cond b (x ∷ filter q xs) (filter q xs)) ≡ true
    go true is (inl here) later = or_left _ _ (and_parts (p x) (q x) here).0
    go true is (inr rest) later = or_right _ _ (later rest)
    go false is (inl here) later = absurd (false≢true (sym is ∙ (and_parts (p x) (q x) here).1))
    go false is (inr rest) later = later rest

pub rises_filter : (q : ℕ → Bool) (low : ℕ) (ids : List ℕ) → rises_from low ids ≡ true → rises_from low (filter q ids) ≡ true
rises_filter q low [] e = refl
rises_filter q low (x ∷ xs) e =
    let both = rises_cons low x xs e in
    go (q x) both.0 (rises_filter q x xs both.1)
  where
    go : (b : Bool) → low < x → rises_from x (filter q xs) ≡ true → rises_from low (cond b (x ∷ filter q xs) (filter q xs)) ≡ true
    go true here rest = and_from _ _ (lt-ltb low x here) rest
    go false here rest = rises_lower low x (filter q xs) (omega arith) rest

-- ---- a sweep's list without an id

pub rises_without : (id low : ℕ) (left : List ℕ) → rises_from low left ≡ true → rises_from low (without_id id left) ≡ true
rises_without id low left e = rises_filter (λ other. not (other == id)) low left e

pub dead_without : (id : ℕ) (left : List ℕ) (records : List Record) → are_dead left records ≡ true → are_dead (without_id id left) records ≡ true
dead_without id left records e = all_filter (λ other. list_any (λ (r : Record). (r.id == other) && r.dead) records) (λ other. not (other == id)) left e

pub listed_without : (id : ℕ) (left : List ℕ) (other : ℕ) → is_listed (without_id id left) other ≡ true → (is_listed left other ≡ true) × (other ≡ id → ⊥)
listed_without id left other e =
    let f = found_any (λ (x : ℕ). (x == other) && not (x == id)) left (any_filter (λ x. x == other) (λ x. not (x == id)) left e) in
    let both = and_parts (f.item == other) (not (f.item == id)) f.passes in (
      subst (λ xs. is_listed xs other ≡ true) (sym f.is) (any_at (λ x. x == other) f.front f.item f.back both.0),
      λ is. eqb-false f.item id (not-true _ both.1) (eqb-true f.item other both.0 ∙ is),
    )

-- ---- the record of an id

none_of_id : (f : Record → ℕ) (id : ℕ) (records : List Record) → count_by (λ (r : Record). r.id == id) records ≡ 0 → sum_by (λ (r : Record). if r.id == id then f r else 0) records ≡ 0
none_of_id f id [] e = refl
none_of_id f id (r ∷ records) e =
    let head = sum_by-cons (λ (x : Record). cond {A = ℕ} (x.id == id) 1 0) r records in
    omega (arith, sum_by-cons (λ (x : Record). if x.id == id then f x else 0) r records, none_of_id f id records (omega arith), go (r.id == id) (omega arith))
  where
    go : (b : Bool) → cond {A = ℕ} b 1 0 ≡ 0 → cond {A = ℕ} b (f r) 0 ≡ 0
    go true e = absurd (omega arith)
    go false e = refl

-- a field of the record of an id, where ids stand once
pub field_here : (f : Record → ℕ) (front : List Record) (r : Record) (back : List Record) (id : ℕ) → r.id ≡ id → count_by (λ (x : Record). x.id == id) (front ++ r ∷ back) ≤ 1
    → sum_by (λ (x : Record). if x.id == id then f x else 0) (front ++ r ∷ back) ≡ f r
field_here f front r back id is one =
    let here : cond {A = ℕ} (r.id == id) 1 0 ≡ 1 = rw (eq-eqb r.id id is) refl in
    let value : cond {A = ℕ} (r.id == id) (f r) 0 ≡ f r = rw (eq-eqb r.id id is) refl in
    let count = sum_at (λ (x : Record). cond {A = ℕ} (x.id == id) 1 0) front r back in
    omega (arith, sum_at (λ (x : Record). if x.id == id then f x else 0) front r back, none_of_id f id front (omega arith), none_of_id f id back (omega arith))

pub record RangeOf (id : ℕ) (records : List Record) (r : Record) : Type 0 where
  pub start : start_of id records ≡ r.start
  pub end : end_of id records ≡ r.start + r.length

pub range_of : (id : ℕ) (records : List Record) → Apart records → (f : Found (λ (r : Record). r.id == id) records) → RangeOf id records f.item
range_of id records apart f =
    let is = eqb-true f.item.id id f.passes in
    let one = subst (λ xs. count_by (λ (x : Record). x.id == id) xs ≤ 1) f.is (apart id) in
    record {
      start = subst (λ xs. start_of id xs ≡ f.item.start) (sym f.is) (field_here (λ r. r.start) f.front f.item f.back id is one);
      end = subst (λ xs. end_of id xs ≡ f.item.start + f.item.length) (sym f.is) (field_here (λ r. r.start + r.length) f.front f.item f.back id is one);
    }
