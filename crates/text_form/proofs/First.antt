-- The first byte that passes a test, as a search finds it.
use Rattle.std.proofs.Common.{◌≡◌, ℕ, Bool, true, false, List, length, Option, Some, None, refl, sym, ap, ◌∙◌, arith, lt-ltb, le-ltb}
use Rattle.std.specs.List.{position_or_len}
use Rattle.std.specs.Prelude.{position}
use Rattle.std.proofs.lemmas.Bool.{cond-true, cond-false}
use Rattle.std.proofs.lemmas.List.Sums.{position_or_len_is}
use Rattle.memchr.specs.Find.{IsFirstByte}

not_true : (b : Bool) → ¬ (b ≡ true) → b ≡ false
not_true true never = absurd (never refl)
not_true false never = refl

pub first_position : (p : ℕ → Bool) (xs : List ℕ) (r : Option ℕ) → IsFirstByte p xs r → r ≡ position p xs
first_position p xs None nowhere =
    let at : position_or_len p xs ≡ length xs = position_or_len_is p xs (length xs) 0 (omega arith) (λ k h. not_true _ (nowhere k (omega arith) h)) (λ h. absurd (omega arith)) in
    sym (cond-false _ _ _ (le-ltb (position_or_len p xs) (length xs) (omega (arith, at))))
first_position p xs (Some k) first =
    let at : position_or_len p xs ≡ k = position_or_len_is p xs k 0 (omega (arith, first.0.high)) (λ j h. not_true _ (first.0.before j (omega arith) h)) (λ h. first.1) in
    ap (λ n. Some n) (sym at) ∙ sym (cond-true _ _ _ (lt-ltb (position_or_len p xs) (length xs) (omega (arith, at, first.0.high))))
