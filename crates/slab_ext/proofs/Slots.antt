-- A vector goes out and comes in, and what holds of all of them stays.
use Rattle.std.proofs.Common.{ℕ, zero, suc, ◌≡◌, ◌≢◌, ◌<◌, ◌≤◌, ◌⊎◌, true, is_some, List, [], ◌∷◌, length, position, slice_get, slice_set, get_or, map, take, option_map, Option, Some, None, refl, sym, ap, ◌∙◌, subst, inl, inr, arith}
use Rattle.std.proofs.lemmas.Bool.{cases_eq}
use Rattle.std.proofs.lemmas.List.{length-map, length-set, length-take}
use Rattle.std.proofs.lemmas.List.Quantifiers.{position-Some}
use Rattle.std.proofs.lemmas.Option.{same_Some, none-some, slice_get_within, slice_get_cases, slice_get_read, slice_get-map}
use Rattle.tag_rule.specs.Shown.{PoolShown}
use Rattle.slab_ext.specs.Vectors.{AreVectors, IsWhole, VectorsShown, Takes}

abbrev pub shown : ℕ → List (Option PoolShown) → VectorsShown
shown cpu pools = record { cpu = cpu; pools = pools }

-- ---- one element of a list is replaced

pub slice_get-set_same : {X : Type 0} (xs : List X) (i : ℕ) (y : X) → i < length xs → slice_get (slice_set xs i y) i ≡ Some y
slice_get-set_same [] i y within = absurd (omega arith)
slice_get-set_same (x ∷ xs) zero y within = refl
slice_get-set_same (x ∷ xs) (suc i) y within = slice_get-set_same xs i y (omega arith)

pub slice_get-set_other : {X : Type 0} (xs : List X) (i k : ℕ) (y : X) → k ≢ i → slice_get (slice_set xs i y) k ≡ slice_get xs k
slice_get-set_other [] i k y other = refl
slice_get-set_other (x ∷ xs) zero zero y other = absurd (other refl)
slice_get-set_other (x ∷ xs) zero (suc k) y other = refl
slice_get-set_other (x ∷ xs) (suc i) zero y other = refl
slice_get-set_other (x ∷ xs) (suc i) (suc k) y other = slice_get-set_other xs i k y (λ e. other (ap suc e))

-- what stands there is the new element, or was there before
pub slice_get-set : {X : Type 0} (xs : List X) (i k : ℕ) (y z : X) → slice_get (slice_set xs i y) k ≡ Some z → ((k ≡ i) × (y ≡ z)) ⊎ (slice_get xs k ≡ Some z)
slice_get-set xs i k y z is = elim (cases_eq k i) [
  | inl same ↦ (
      let within : i < length xs = omega (arith, same, length-set xs i y, slice_get_within _ k z is) in
      let here : slice_get (slice_set xs i y) i ≡ Some z = subst (λ n. slice_get (slice_set xs i y) n ≡ Some z) same is in
      inl (same, same_Some y z (sym (slice_get-set_same xs i y within) ∙ here)))
  | inr other ↦ inr (sym (slice_get-set_other xs i k y other) ∙ is)
]

pub slice_get-take : {X : Type 0} (xs : List X) (n k : ℕ) (z : X) → slice_get (take n xs) k ≡ Some z → (k < n) × (slice_get xs k ≡ Some z)
slice_get-take [] n k z is = (absurd (none-some z (missing n k is)), absurd (none-some z (missing n k is)))
  where
    missing : (n k : ℕ) → slice_get (take n []) k ≡ Some z → None ≡ Some z
    missing zero k is = is
    missing (suc n) k is = is
slice_get-take (x ∷ xs) zero k z is = (absurd (none-some z is), absurd (none-some z is))
slice_get-take (x ∷ xs) (suc n) zero z is = (omega arith, is)
slice_get-take (x ∷ xs) (suc n) (suc k) z is = let rest = slice_get-take xs n k z is in (omega (arith, rest.0), rest.1)

-- ---- the vectors

pub fresh : (cpu vectors : ℕ) (pools : List PoolShown) (made : List (Option PoolShown)) → vectors ≤ 64
    → ((number : ℕ) (pool : PoolShown) → number < vectors → slice_get pools number ≡ Some pool → IsWhole cpu number pool)
    → made ≡ map Some (take vectors pools) → AreVectors (shown cpu made)
fresh cpu vectors pools made few whole is =
    let some : PoolShown → Option PoolShown = λ pool. Some pool in
    subst (λ slots. AreVectors (shown cpu slots)) (sym is) (record {
      few = omega (arith, length-map (take vectors pools) some, length-take vectors pools);
      whole = λ number pool here.
          let was = slice_get-map some (take vectors pools) number in
          elim (slice_get_cases (take vectors pools) number).1 [
            | inl found ↦ (
                let at = slice_get-take pools vectors number found.0 found.2 in
                let same : found.0 ≡ pool = same_Some _ _ (same_Some _ _ (sym (was ∙ ap (option_map some) found.2) ∙ here)) in
                whole number pool at.0 (subst (λ p. slice_get pools number ≡ Some p) same at.1))
            | inr past ↦ absurd (none-some (Some pool) (sym (was ∙ ap (option_map some) past.1) ∙ here))
          ];
    })

pub out_goes : (cpu number : ℕ) (pools : List (Option PoolShown)) → AreVectors (shown cpu pools) → AreVectors (shown cpu (slice_set pools number None))
out_goes cpu number pools are = record {
  few = (let few = are.few in omega (arith, length-set pools number None));
  whole = λ other pool is. elim (slice_get-set pools number other None (Some pool) is) [
    | inl here ↦ absurd (none-some pool here.1)
    | inr was ↦ are.whole other pool was
  ];
}

pub in_comes : (cpu number : ℕ) (pool : PoolShown) (pools : List (Option PoolShown)) → IsWhole cpu number pool → AreVectors (shown cpu pools) → AreVectors (shown cpu (slice_set pools number (Some pool)))
in_comes cpu number pool pools whole are = record {
  few = (let few = are.few in omega (arith, length-set pools number (Some pool)));
  whole = λ other own is. elim (slice_get-set pools number other (Some pool) (Some own) is) [
    | inl here ↦ subst (λ p. IsWhole cpu other p) (same_Some pool own here.1) (subst (λ n. IsWhole cpu n pool) (sym here.0) whole)
    | inr was ↦ are.whole other own was
  ];
}

-- the lowest that is in has a pool
pub lowest_is_in : (pools : List (Option PoolShown)) (number : ℕ) (slot : Option PoolShown) → Some number ≡ position is_some pools → slot ≡ get_or pools number slot → is_some slot ≡ true
lowest_is_in pools number slot is own = subst (λ o. is_some o ≡ true) (sym own) (position-Some is_some pools number slot (sym is)).1

pub takes : (cpu number : ℕ) (pool : PoolShown) (pools : List (Option PoolShown)) (slot : Option PoolShown) → AreVectors (shown cpu pools) → Some number ≡ position is_some pools → slot ≡ get_or pools number slot → slot ≡ Some pool
    → Takes (shown cpu pools) (shown cpu (slice_set pools number None)) (record { number = number; pool = pool })
takes cpu number pool pools slot are is own has_pool =
    let within = (position-Some is_some pools number slot (sym is)).0 in
    let here : slice_get pools number ≡ Some (Some pool) = slice_get_read pools (length pools) number slot refl within own ∙ ap Some has_pool in
    record { is_lowest = sym is; own = here; whole = are.whole number pool here; out = refl }
