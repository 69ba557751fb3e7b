-- The order of places, and lists that rise in an order.
use Rattle.std.proofs.Common.{◌≡◌, ℕ, zero, suc, ◌+◌, ◌<◌, ◌≤◌, ◌==◌, ◌&&◌, ◌⊎◌, Bool, true, List, [], ◌∷◌, ◌++◌, map, get_or, All, AllPairs, flat_map, Option, None, Some, nat_lt, inl, inr, refl, ◌∙◌, arith, eq-eqb, eqb-true, lt-ltb, ltb-true, ⊎_elim}
use Rattle.std.specs.List.{range_with_len}
use Rattle.std.proofs.lemmas.Bool.{and_parts, and_from, or_left, or_right, or_cases}
use Rattle.std.proofs.lemmas.List.Elements.{All-nil, All-cons, All-head, All-tail, All-append, All-map, All-weaker}
use Rattle.tag_iter.specs.Places.{is_above, less_or, IsBefore, rank_of}
use Rattle.tag_iter.specs.declared.place.TagPlace.{TagPlace}

-- ---- two numbers, and then the rest

less_or_parts : (a b : ℕ) (rest : Bool) → less_or a b rest ≡ true → (a < b) ⊎ ((a ≡ b) × (rest ≡ true))
less_or_parts a b rest is =
    ⊎_elim
    (λ less. inl (ltb-true a b less))
    (λ same. let parts = and_parts (a == b) rest same in inr (eqb-true a b parts.0, parts.1))
    (or_cases (nat_lt a b) (a == b && rest) is)

pub less_or_less : (a b : ℕ) (rest : Bool) → a < b → less_or a b rest ≡ true
less_or_less a b rest less = or_left (nat_lt a b) (a == b && rest) (lt-ltb a b less)

pub less_or_same : (a b : ℕ) (rest : Bool) → a ≡ b → rest ≡ true → less_or a b rest ≡ true
less_or_same a b rest same is = or_right (nat_lt a b) (a == b && rest) (and_from (a == b) rest (eq-eqb a b same) is)

less_or_chain : (a b c : ℕ) (r s t : Bool) → (r ≡ true → s ≡ true → t ≡ true) → less_or a b r ≡ true → less_or b c s ≡ true → less_or a c t ≡ true
less_or_chain a b c r s t rest one other = go (less_or_parts a b r one) (less_or_parts b c s other)
  where
    go : (a < b) ⊎ ((a ≡ b) × (r ≡ true)) → (b < c) ⊎ ((b ≡ c) × (s ≡ true)) → less_or a c t ≡ true
    go (inl less) (inl later) = less_or_less a c t (omega arith)
    go (inl less) (inr same) = less_or_less a c t (omega (arith, same.0))
    go (inr same) (inl less) = less_or_less a c t (omega (arith, same.0))
    go (inr same) (inr later) = less_or_same a c t (same.0 ∙ later.0) (rest same.1 later.1)

-- a number isn't less than itself
less_or_itself : (a : ℕ) (rest : Bool) → less_or a a rest ≡ true → rest ≡ true
less_or_itself a rest is =
    ⊎_elim (λ less. absurd (omega (arith, less))) (λ (same : (a ≡ a) × (rest ≡ true)). same.1) (less_or_parts a a rest is)

-- ---- places

pub before_chain : (x y z : TagPlace) → IsBefore x y → IsBefore y z → IsBefore x z
before_chain x y z =
    less_or_chain (rank_of x.kept) (rank_of y.kept) (rank_of z.kept)
    (less_or x.«module» y.«module» (nat_lt x.index y.index)) (less_or y.«module» z.«module» (nat_lt y.index z.index)) (less_or x.«module» z.«module» (nat_lt x.index z.index))
    (less_or_chain x.«module» y.«module» z.«module» (nat_lt x.index y.index) (nat_lt y.index z.index) (nat_lt x.index z.index)
    (λ one other. lt-ltb x.index z.index (omega (arith, ltb-true x.index y.index one, ltb-true y.index z.index other))))

pub before_itself : (x : TagPlace) → ¬ IsBefore x x
before_itself x is =
    let by_id = less_or_itself (rank_of x.kept) (less_or x.«module» x.«module» (nat_lt x.index x.index)) is in
    let by_index = less_or_itself x.«module» (nat_lt x.index x.index) by_id in
    omega (arith, ltb-true x.index x.index by_index)

pub not_both : (x y : TagPlace) → IsBefore x y → ¬ IsBefore y x
not_both x y one other = before_itself x (before_chain x y x one other)

pub above_chain : (last : Option TagPlace) (x y : TagPlace) → is_above last x ≡ true → IsBefore x y → is_above last y ≡ true
above_chain None x y above before = refl
above_chain (Some last) x y above before = before_chain last x y above before

-- ---- lists that rise, by recursion

module _ {X : Type 0} (R : X → X → Type 0) where
  abbrev pub Rises : List X → Type 0
  Rises [] = Unit {0}
  Rises (x ∷ xs) = All (R x) xs × Rises xs

  pub Rises-from_AllPairs : (xs : List X) → AllPairs R xs → Rises xs
  Rises-from_AllPairs [] pairs = tt
  Rises-from_AllPairs (x ∷ xs) pairs = (
    λ k d inside. pairs 0 (suc k) d (omega arith) (omega arith),
    Rises-from_AllPairs xs (λ i j d less inside. pairs (suc i) (suc j) d (omega arith) (omega arith)),
  )

  pub AllPairs-from_Rises : (xs : List X) → Rises xs → AllPairs R xs
  AllPairs-from_Rises [] rises i j d less inside = absurd (omega arith)
  AllPairs-from_Rises (x ∷ xs) rises zero zero d less inside = absurd (omega arith)
  AllPairs-from_Rises (x ∷ xs) rises (suc i) zero d less inside = absurd (omega arith)
  AllPairs-from_Rises (x ∷ xs) rises zero (suc j) d less inside = rises.0 j d (omega arith)
  AllPairs-from_Rises (x ∷ xs) rises (suc i) (suc j) d less inside = AllPairs-from_Rises xs rises.1 i j d (omega arith) (omega arith)

  pub Rises-append : (xs ys : List X) → Rises xs → Rises ys → All (λ x. All (R x) ys) xs → Rises (xs ++ ys)
  Rises-append [] ys front back across = back
  Rises-append (x ∷ xs) ys front back across = (
    All-append (R x) xs ys front.0 (All-head (λ z. All (R z) ys) x xs across),
    Rises-append xs ys front.1 back (All-tail (λ z. All (R z) ys) x xs across),
  )

pub All-flat_map : {A X : Type 0} (P : X → Type 0) (f : A → List X) (xs : List A) → All (λ a. All P (f a)) xs → All P (flat_map f xs)
All-flat_map P f [] every = All-nil P
All-flat_map P f (x ∷ xs) every =
    All-append P (f x) (flat_map f xs) (All-head (λ a. All P (f a)) x xs every) (All-flat_map P f xs (All-tail (λ a. All P (f a)) x xs every))

pub Rises-flat_map : {A X : Type 0} (R : X → X → Type 0) (f : A → List X) (xs : List A)
    → All (λ a. Rises R (f a)) xs → Rises (λ a b. All (λ x. All (R x) (f b)) (f a)) xs → Rises R (flat_map f xs)
Rises-flat_map R f [] each across = tt
Rises-flat_map R f (x ∷ xs) each across =
    Rises-append R (f x) (flat_map f xs) (All-head (λ a. Rises R (f a)) x xs each)
    (Rises-flat_map R f xs (All-tail (λ a. Rises R (f a)) x xs each) across.1)
    (λ k d inside. All-flat_map (R (get_or (f x) k d)) f xs (λ j e within. across.0 j e within k d inside))

pub Rises-map : {A X : Type 0} (R : X → X → Type 0) (f : A → X) (xs : List A) → Rises (λ a b. R (f a) (f b)) xs → Rises R (map f xs)
Rises-map R f [] rises = tt
Rises-map R f (x ∷ xs) rises = (All-map (R (f x)) f xs rises.0, Rises-map R f xs rises.1)

-- numbers of a range are no less than its first
pub range_from : (a n : ℕ) → All (λ i. a ≤ i) (range_with_len a n)
range_from a zero = All-nil (λ i. a ≤ i)
range_from a (suc n) = All-cons (λ i. a ≤ i) a (range_with_len (a + 1) n) (omega arith) (All-weaker (λ i. a + 1 ≤ i) (λ i. a ≤ i) (λ i more. omega arith) (range_with_len (a + 1) n) (range_from (a + 1) n))

pub Rises-range : {X : Type 0} (R : X → X → Type 0) (f : ℕ → X) → ((i j : ℕ) → i < j → R (f i) (f j)) → (a n : ℕ) → Rises R (map f (range_with_len a n))
Rises-range R f by_number a zero = tt
Rises-range R f by_number a (suc n) = (
  All-map (R (f a)) f (range_with_len (a + 1) n) (All-weaker (λ i. a + 1 ≤ i) (λ i. R (f a) (f i)) (λ i more. by_number a i (omega arith)) (range_with_len (a + 1) n) (range_from (a + 1) n)),
  Rises-range R f by_number (a + 1) n,
)
