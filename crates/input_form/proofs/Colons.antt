-- What stands round the first element that passes.
use Rattle.std.proofs.Common.{◌≡◌, ℕ, ◌+◌, ◌-◌, Bool, ltb, List, [], length, take, drop, Some, None, position, sym, ap, ◌∙◌, arith}
use Rattle.std.specs.List.{before_first, after_first, position_or_len}
use Rattle.std.proofs.lemmas.Bool.{cond_both}
use Rattle.std.proofs.lemmas.Grind.{common_steps}
use Rattle.text_form.proofs.Parts.{behind, none_before as past_all}

place_is : (p : ℕ → Bool) (xs : List ℕ) (i : ℕ) → position p xs ≡ Some i → position_or_len p xs ≡ i
place_is p xs i e =
    cond_both (ltb (position_or_len p xs) (length xs)) (Some (position_or_len p xs)) None (λ r. r ≡ Some i → position_or_len p xs ≡ i)
    (λ _ h. cc) (λ _ h. let no : ⊥ = cc in absurd no) e

pub found_before : (p : ℕ → Bool) (xs front : List ℕ) (i : ℕ) → position p xs ≡ Some i → front ≡ take i xs → front ≡ before_first p xs
found_before p xs front i e f = f ∙ ap (λ n. take n xs) (sym (place_is p xs i e))

pub found_after : (p : ℕ → Bool) (xs back : List ℕ) (i : ℕ) → position p xs ≡ Some i → back ≡ drop i xs → take (length back - 1) (drop 1 back) ≡ after_first p xs
found_after p xs back i e f = behind xs back i f ∙ ap (λ n. drop (n + 1) xs) (sym (place_is p xs i e))

pub none_before : (p : ℕ → Bool) (xs : List ℕ) → position p xs ≡ None → xs ≡ before_first p xs
none_before p xs e = let far = past_all p xs e in grind (arith, common_steps)

pub none_after : (p : ℕ → Bool) (xs : List ℕ) → position p xs ≡ None → [] ≡ after_first p xs
none_after p xs e = let far = past_all p xs e in grind (arith, common_steps)
