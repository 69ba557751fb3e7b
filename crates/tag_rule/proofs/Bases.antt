-- Base moves: parts are cut where they stand, or taken from among others.
use Rattle.std.proofs.Common.{◌≡◌, ℕ, ◌+◌, zero, suc, List, [], ◌∷◌, ◌++◌, take, drop, sum_by, refl, ap, arith}
use Rattle.std.proofs.lemmas.List.Sums.{sum_by-append}
use Rattle.tag_model.specs.declared.shape.Shape.{Shape}
use Rattle.tag_model.specs.declared.state.Part.{Part}
use Rattle.tag_rule.specs.Rule.{Moves}
use Rattle.tag_rule.proofs.Keeps.{same_parts}

take_then_drop : (n : ℕ) (parts : List Part) → take n parts ++ drop n parts ≡ parts
take_then_drop zero parts = refl
take_then_drop (suc n) [] = refl
take_then_drop (suc n) (p ∷ parts) = ap (λ (ps : List Part). p ∷ ps) (take_then_drop n parts)

sum_cut : (n : ℕ) (parts : List Part) (f : Part → ℕ) → sum_by f parts ≡ sum_by f (take n parts) + sum_by f (drop n parts)
sum_cut n parts f = let whole : sum_by f (take n parts ++ drop n parts) ≡ sum_by f parts = ap (λ (ps : List Part). sum_by f ps) (take_then_drop n parts) in omega (arith, sum_by-append f (take n parts) (drop n parts))

pub cut_at : (k : Shape) (n : ℕ) (parts : List Part) → Moves k parts (take n parts ++ drop n parts)
cut_at k n parts = same_parts k parts (take n parts ++ drop n parts) (λ f. omega (arith, sum_cut n parts f, sum_by-append f (take n parts) (drop n parts)))

pub cut_front : (k : Shape) (n : ℕ) (parts : List Part) → Moves k parts (drop n parts ++ take n parts)
cut_front k n parts = same_parts k parts (drop n parts ++ take n parts) (λ f. omega (arith, sum_cut n parts f, sum_by-append f (drop n parts) (take n parts)))
