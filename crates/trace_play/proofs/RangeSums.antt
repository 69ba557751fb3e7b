-- Sums over a range whose later numbers add nothing.
use Rattle.std.proofs.Common.{◌≡◌, ℕ, zero, suc, ◌+◌, ◌≤◌, sum_by, refl, ap, ap₂, sym, ◌∙◌, arith}
use Rattle.std.specs.List.{range_with_len}
use Rattle.std.proofs.lemmas.List.Sums.{sum_by-cons}

module _ (f : ℕ → ℕ) where
  pub zeros : (a n : ℕ) → ((i : ℕ) → a ≤ i → f i ≡ 0) → sum_by f (range_with_len a n) ≡ 0
  zeros a zero none = refl
  zeros a (suc n) none =
      sum_by-cons f a (range_with_len (a + 1) n) ∙ ap₂ (λ x y. x + y) (none a (omega arith)) (zeros (a + 1) n (λ i from. none i (omega (arith, from))))

  -- what is 0 from some number on adds nothing
  pub zeros_beyond : (a n all : ℕ) → n ≤ all → ((i : ℕ) → a + n ≤ i → f i ≡ 0) → sum_by f (range_with_len a all) ≡ sum_by f (range_with_len a n)
  zeros_beyond a zero all few none = zeros a all (λ i from. none i (omega (arith, from)))
  zeros_beyond a (suc n) zero few none = absurd (omega (arith, few))
  zeros_beyond a (suc n) (suc all) few none =
      sum_by-cons f a (range_with_len (a + 1) all)
      ∙ ap (λ x. f a + x) (zeros_beyond (a + 1) n all (omega (arith, few)) (λ i from. none i (omega (arith, from))))
      ∙ sym (sum_by-cons f a (range_with_len (a + 1) n))
