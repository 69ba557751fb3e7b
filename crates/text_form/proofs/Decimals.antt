-- Digits and the number that they spell.
use Rattle.std.proofs.Common.{◌≡◌, ℕ, ◌+◌, ◌-◌, ◌*◌, ◌^◌, ◌<◌, ◌≤◌, true, false, cond, eqb, List, [], ◌∷◌, length, get_or, drop, inl, inr, Some, None, refl, sym, ap, ◌∙◌, subst, arith}
use Rattle.std.specs.Fmt.{decimal}
use Rattle.std.specs.Int.{IsInRange}
use Rattle.std.specs.Str.Parse.{AllDigits}
use Rattle.std.proofs.lemmas.Bool.{cases_lt, eqb-true, eqb-false, cond_both, cond-true, cond-false}
use Rattle.std.proofs.lemmas.Bool.Decides.{nat_tests}
use Rattle.std.proofs.lemmas.Fmt.{decimal_digit, decimal_nonempty, first_decimal, digits_decimal, digits_value-decimal, decimal-digits_value}
use Rattle.std.proofs.lemmas.List.{at_drop_more}
use Rattle.std.proofs.lemmas.Str.Parse.{IsNumeralModel, numerals_by_fold, tells_digits}
use Rattle.text_form.specs.Numbers.{is_digit, number_after, number_value}

-- each digit makes the number at least ten times as great
pub grows : (ds : List ℕ) (v n : ℕ) → number_after v ds ≡ Some n → v ≤ n
grows [] v n e = let same : v ≡ n = cc in omega arith
grows (d ∷ ds) v n e =
    cond_both (is_digit d) (number_after (v * 10 + (d - 48)) ds) None (λ r. r ≡ Some n → v ≤ n)
    (λ _ h. let more : v * 10 + (d - 48) ≤ n = grows ds (v * 10 + (d - 48)) n h in omega arith)
    (λ _ h. let no : ⊥ = cc in absurd no)
    e

-- one digit more
pub turn : (ds : List ℕ) (i v : ℕ) → i < length ds → is_digit (get_or ds i 0) ≡ true → number_after v (drop i ds) ≡ number_after (v * 10 + (get_or ds i 0 - 48)) (drop (i + 1) ds)
turn ds i v h d = at_drop_more (number_after v) ds i 0 h ∙ cond-true _ _ _ d

-- the number that digits spell, whatever stands there
abbrev spelled_after : ℕ → List ℕ → ℕ
spelled_after n [] = n
spelled_after n (c ∷ cs) = spelled_after (n * 10 + (c - 48)) cs

own : IsNumeralModel (AllDigits 10) (spelled_after 0)
own = numerals_by_fold (AllDigits 10) tells_digits spelled_after (record { empty = λ _. refl; more = λ _ _ _ _. refl })

in_range : (c : ℕ) → IsInRange 48 57 c → is_digit c ≡ true
in_range c h = grind (arith, nat_tests)

from_test : (c : ℕ) → is_digit c ≡ true → IsInRange 48 57 c
from_test c h = grind (arith, nat_tests)

read : (v : ℕ) (ds : List ℕ) → AllDigits 10 ds → number_after v ds ≡ Some (spelled_after v ds)
read v [] h = refl
read v (c ∷ cs) h =
    let parts = tells_digits.parts c cs h in
    cond-true _ _ _ (in_range c parts.0) ∙ read (v * 10 + (c - 48)) cs parts.1

were_digits : (v : ℕ) (ds : List ℕ) (n : ℕ) → number_after v ds ≡ Some n → AllDigits 10 ds × (spelled_after v ds ≡ n)
were_digits v [] n e = (tt, cc)
were_digits v (c ∷ cs) n e =
    cond_both (is_digit c) (number_after (v * 10 + (c - 48)) cs) None (λ r. r ≡ Some n → AllDigits 10 (c ∷ cs) × (spelled_after v (c ∷ cs) ≡ n))
    (λ d h.
    let more = were_digits (v * 10 + (c - 48)) cs n h in
    (tells_digits.more c cs (from_test c d) more.0, more.1))
    (λ _ h. let no : ⊥ = cc in absurd no)
    e

-- a word that doesn't begin with `0` spells what its digits do
pub not_zero : (w : List ℕ) → 0 < length w → 48 < get_or w 0 0 → number_value w ≡ number_after 0 w
not_zero [] some first = absurd (omega arith)
not_zero (b ∷ bs) some first =
    let other : eqb b 48 ≡ false = grind (arith, nat_tests) in
    cond-false (eqb b 48) (cond (eqb (length bs) 0) (Some 0) None) (number_after 0 (b ∷ bs)) other

pub value_of_decimal : (n : ℕ) → n < 2 ^ 64 → number_value (decimal n) ≡ Some n
value_of_decimal n small =
    elim (cases_lt 0 n) [
      | inl above ↦
          not_zero (decimal n) (decimal_nonempty n small) (first_decimal n above small)
          ∙ read 0 (decimal n) (digits_decimal own n small)
          ∙ ap Some (digits_value-decimal own n small)
      | inr zero ↦
          let is : 0 ≡ n = omega arith in
          subst (λ m. number_value (decimal m) ≡ Some m) is (ap number_value (decimal_digit 0 (omega arith)))
    ]

no_digits : (bs : List ℕ) → length bs ≡ 0 → bs ≡ []
no_digits [] h = refl
no_digits (b ∷ bs) h = absurd (omega arith)

pub decimal_of_value : (w : List ℕ) (n : ℕ) → n < 2 ^ 64 → number_value w ≡ Some n → w ≡ decimal n
decimal_of_value [] n small e = let no : ⊥ = cc in absurd no
decimal_of_value (b ∷ bs) n small e =
    cond_both (eqb b 48) (cond (eqb (length bs) 0) (Some 0) None) (number_after 0 (b ∷ bs)) (λ r. r ≡ Some n → b ∷ bs ≡ decimal n)
    (λ zero.
    cond_both (eqb (length bs) 0) (Some 0) None (λ r. r ≡ Some n → b ∷ bs ≡ decimal n)
    (λ alone h.
    let is : 0 ≡ n = cc in
    let first = eqb-true b 48 zero in
    let none = no_digits bs (eqb-true (length bs) 0 alone) in
    ap (λ x. x ∷ bs) first ∙ ap (λ xs. 48 ∷ xs) none ∙ sym (decimal_digit 0 (omega arith)) ∙ ap decimal is)
    (λ _ h. let no : ⊥ = cc in absurd no))
    (λ other h.
    let parts = were_digits 0 (b ∷ bs) n h in
    let small' : spelled_after 0 (b ∷ bs) < 2 ^ 64 = omega (arith, parts.1, small) in
    let nonzero : b ≡ 48 → length (b ∷ bs) ≡ 1 = λ is. absurd (eqb-false b 48 other is) in
    sym (decimal-digits_value own (b ∷ bs) parts.0 (omega arith) nonzero small') ∙ ap decimal parts.1)
    e
