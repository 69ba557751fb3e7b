-- Numbers of a row, read and printed.
use Rattle.std.proofs.Common.{◌≡◌, ℕ, ◌-◌, ◌^◌, ◌<◌, ◌≤◌, false, eqb, leb, ◌&&◌, cond, List, [], ◌∷◌, length, Some, None, sym, ap, ◌∙◌, subst, arith, inl, inr}
use Rattle.std.specs.Fmt.{decimal}
use Rattle.std.specs.Int.{IsInRange}
use Rattle.std.specs.Option.{option_map, option_and_then}
use Rattle.std.specs.Str.Parse.{AllDigits, digits_value}
use Rattle.std.proofs.lemmas.Bool.{cases_lt, cond_both, cond-true, cond-false, eqb-true, ne_eqb, and_parts, leb-true, lt-ltb, le-ltb}
use Rattle.std.proofs.lemmas.Bool.Decides.{nat_tests}
use Rattle.std.proofs.lemmas.Fmt.{digits_decimal, decimal_nonempty}
use Rattle.std.proofs.lemmas.Str.Parse.{IsNumeralModel, numerals_by_value, tells_digits, digit_from_value}
use Rattle.text_form.specs.Numbers.{number_in, number_value}
use Rattle.text_form.proofs.Decimals.{value_of_decimal, decimal_of_value}
use Rattle.allocinfo.specs.Text.{signed_text}
use Rattle.info_read.specs.Numbers.{signed_of, unsigned_of}
use Rattle.info_read.proofs.CutLemmas.{Lacks, map_parts, then_parts}

own : IsNumeralModel (AllDigits 10) (digits_value 10)
own = numerals_by_value (AllDigits 10) tells_digits

lacks_by_digits : (mark : ℕ) (ds : List ℕ) → (IsInRange 48 57 mark → ⊥) → AllDigits 10 ds → Lacks mark ds
lacks_by_digits mark [] out digits = tt
lacks_by_digits mark (c ∷ cs) out digits =
    (ne_eqb c mark (λ is. out (subst (IsInRange 48 57) is (digit_from_value c digits.0))), lacks_by_digits mark cs out digits.1)

-- a number's digits have no other byte
pub lacks_decimal : (mark n : ℕ) → (IsInRange 48 57 mark → ⊥) → n < 2 ^ 64 → Lacks mark (decimal n)
lacks_decimal mark n out small = lacks_by_digits mark (decimal n) out (digits_decimal own n small)

pub number_in_decimal : (low high n : ℕ) → n < 2 ^ 64 → low ≤ n → n ≤ high → number_in low high (decimal n) ≡ Some n
number_in_decimal low high n small above below =
    ap (option_and_then (λ m. cond (leb low m && leb m high) (Some m) None)) (value_of_decimal n small)
    ∙ grind (arith, nat_tests)

pub decimal_of_number_in : (low high n : ℕ) (word : List ℕ) → high < 2 ^ 64 → number_in low high word ≡ Some n → (word ≡ decimal n) × (low ≤ n) × (n ≤ high)
decimal_of_number_in low high n word wide e =
    let parts = then_parts (λ m. cond (leb low m && leb m high) (Some m) None) (number_value word) n e in
    cond_both (leb low parts.0 && leb parts.0 high) (Some parts.0) None (λ r. r ≡ Some n → (word ≡ decimal n) × (low ≤ n) × (n ≤ high))
    (λ within h.
    let is : parts.0 ≡ n = cc in
    let tests = and_parts (leb low parts.0) (leb parts.0 high) within in
    let above : low ≤ n = subst (λ m. low ≤ m) is (leb-true low parts.0 tests.0) in
    let below : n ≤ high = subst (λ m. m ≤ high) is (leb-true parts.0 high tests.1) in
    (decimal_of_value word n (omega arith) (parts.1 ∙ ap Some is), above, below))
    (λ _ h. let no : ⊥ = cc in absurd no)
    parts.2

-- a word that doesn't begin with `-`
plain : (word : List ℕ) → 0 < length word → Lacks 45 word → signed_of word ≡ number_in 0 (2 ^ 63 - 1) word
plain [] some lacks = absurd (omega arith)
plain (b ∷ bs) some lacks = cond-false _ _ _ lacks.0

pub signed_read : (n : ℕ) → n < 2 ^ 64 → signed_of (signed_text n) ≡ Some n
signed_read n small =
    elim (cases_lt n (2 ^ 63)) [
      | inl low ↦
          ap signed_of (cond-true _ _ _ (lt-ltb n (2 ^ 63) low))
          ∙ plain (decimal n) (decimal_nonempty n small) (lacks_decimal 45 n (λ h. omega arith) small)
          ∙ number_in_decimal 0 (2 ^ 63 - 1) n small (omega arith) (omega arith)
      | inr high ↦
          let back : 2 ^ 64 - (2 ^ 64 - n) ≡ n = omega arith in
          ap signed_of (cond-false _ _ _ (le-ltb n (2 ^ 63) high))
          ∙ ap (option_map (λ m. 2 ^ 64 - m)) (number_in_decimal 1 (2 ^ 63) (2 ^ 64 - n) (omega arith) (omega arith) (omega arith))
          ∙ ap Some back
    ]

pub signed_printed : (word : List ℕ) (n : ℕ) → signed_of word ≡ Some n → (word ≡ signed_text n) × (n < 2 ^ 64)
signed_printed [] n e = let no : ⊥ = cc in absurd no
signed_printed (b ∷ bs) n e =
    cond_both (eqb b 45) (option_map (λ m. 2 ^ 64 - m) (number_in 1 (2 ^ 63) bs)) (number_in 0 (2 ^ 63 - 1) (b ∷ bs)) (λ r. r ≡ Some n → (b ∷ bs ≡ signed_text n) × (n < 2 ^ 64))
    (λ sign h.
    let parts = map_parts (λ m. 2 ^ 64 - m) (number_in 1 (2 ^ 63) bs) n h in
    let known = decimal_of_number_in 1 (2 ^ 63) parts.0 bs (omega arith) parts.1 in
    let back : 2 ^ 64 - n ≡ parts.0 = omega (arith, parts.2, known.1, known.2) in
    let high : 2 ^ 63 ≤ n = omega (arith, parts.2, known.1, known.2) in (
      ap (λ x. x ∷ bs) (eqb-true b 45 sign) ∙ ap (λ t. 45 ∷ t) (known.0 ∙ ap decimal (sym back))
          ∙ sym (cond-false _ _ _ (le-ltb n (2 ^ 63) high)),
      omega (arith, parts.2, known.1, known.2),
    ))
    (λ _ h.
    let known = decimal_of_number_in 0 (2 ^ 63 - 1) n (b ∷ bs) (omega arith) h in
    let low : n < 2 ^ 63 = omega (arith, known.2) in
    (known.0 ∙ sym (cond-true _ _ _ (lt-ltb n (2 ^ 63) low)), omega arith))
    e

pub unsigned_read : (n : ℕ) → n < 2 ^ 64 → unsigned_of (decimal n) ≡ Some n
unsigned_read n small = number_in_decimal 0 (2 ^ 64 - 1) n small (omega arith) (omega arith)

pub unsigned_printed : (word : List ℕ) (n : ℕ) → unsigned_of word ≡ Some n → (word ≡ decimal n) × (n < 2 ^ 64)
unsigned_printed word n e =
    let known = decimal_of_number_in 0 (2 ^ 64 - 1) n word (omega arith) e in
    (known.0, omega (arith, known.2))

-- a signed number's text has no other byte but the sign
pub lacks_signed : (mark n : ℕ) → (IsInRange 48 57 mark → ⊥) → eqb 45 mark ≡ false → n < 2 ^ 64 → Lacks mark (signed_text n)
lacks_signed mark n out sign small =
    elim (cases_lt n (2 ^ 63)) [
      | inl low ↦ subst (Lacks mark) (sym (cond-true _ _ _ (lt-ltb n (2 ^ 63) low))) (lacks_decimal mark n out small)
      | inr high ↦
          subst (Lacks mark) (sym (cond-false _ _ _ (le-ltb n (2 ^ 63) high))) (sign, lacks_decimal mark (2 ^ 64 - n) out (omega arith))
    ]

pub signed_nonempty : (n : ℕ) → n < 2 ^ 64 → 0 < length (signed_text n)
signed_nonempty n small =
    elim (cases_lt n (2 ^ 63)) [
      | inl low ↦ subst (λ t. 0 < length t) (sym (cond-true _ _ _ (lt-ltb n (2 ^ 63) low))) (decimal_nonempty n small)
      | inr high ↦ subst (λ t. 0 < length t) (sym (cond-false _ _ _ (le-ltb n (2 ^ 63) high))) (omega arith)
    ]
