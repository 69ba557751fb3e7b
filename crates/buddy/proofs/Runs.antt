-- Bits of words one by one, what a turn of bits in one word or of whole words leaves, and where a run stands.
use Rattle.std.proofs.Common.{ℕ, ◌≡◌, ◌+◌, ◌-◌, ◌*◌, ◌/◌, ◌%◌, ◌^◌, ◌<◌, ◌≤◌, ◌⊎◌, ◌↔◌, ◌++◌, ◌==◌, [], ◌∷◌, inl, inr, min, List, length, get_or, slice_set, take, drop, bit_and, bit_xor, refl, sym, ap, ◌∙◌, subst, arith}
use Rattle.std.specs.Int.{bit_at, w64}
use Rattle.std.proofs.Math.Pow.{pow_mono}
use Rattle.std.proofs.lemmas.Nat.{pow-add, shr-shr}
use Rattle.std.proofs.lemmas.Nat.Bits.{bit_at-lt, bit_at_and, bit_at_xor, bit_at_not, bit_at-zero, bit_at_ones, bit_at_mask_inside, bit_at_mask_below, bit_at_mask_above, same_from_bits_below}
use Rattle.std.proofs.lemmas.List.{get_or-set_same, get_or-set_other, get_or_append_left, get_or-append_right, get_or-take, get_or-drop, get_or_past, length-set, length-take-le, length-append, length-drop}
use Rattle.std.proofs.lemmas.Bool.{cases_lt, cases_eq, agree_below_at, eqb-true, eq-eqb}
use borrow.Rule.Slice.PartMut.{put_mid}
use Rattle.buddy.specs.Bits.{bit_of, HasOnes, IsRun, IsLeastRun, HasNoRun, IsFlipped}
use Rattle.buddy.proofs.Orders.{below_six, six_to_ten, in_word, from_word, of_words}

-- ---- bits

pub bit_of_in : (words : List ℕ) (i k : ℕ) → i / 64 ≡ k → bit_of words i ≡ bit_at (get_or words k 0) (i % 64)
unfolding bit_of
bit_of_in words i k e = ap (λ j. bit_at (get_or words j 0) (i % 64)) e

pub bit_of_lt : (words : List ℕ) (i : ℕ) → bit_of words i < 2
unfolding bit_of
bit_of_lt words i = bit_at-lt (get_or words (i / 64) 0) (i % 64)

-- no bit is set past the words
pub bit_of_past : (words : List ℕ) (i : ℕ) → 64 * length words ≤ i → bit_of words i ≡ 0
unfolding bit_of
bit_of_past words i past = ap (λ w. bit_at w (i % 64)) (get_or_past words (i / 64) 0 (omega arith)) ∙ bit_at-zero (i % 64)

pub bit_of_within : (words : List ℕ) (i : ℕ) → bit_of words i ≡ 1 → i < 64 * length words
bit_of_within words i set = elim (cases_lt i (64 * length words)) [ inl h ↦ h | inr past ↦ absurd (omega (arith, bit_of_past words i past)) ]

-- ---- a turn of bits in one word

mask_is : (order t : ℕ) → order < 6 → t + 2 ^ order ≤ 64 → (2 ^ 2 ^ order - 1) * 2 ^ t % 18446744073709551616 ≡ 2 ^ (t + 2 ^ order) - 2 ^ t
mask_is order t below =
    below_six (λ o. t + 2 ^ o ≤ 64 → (2 ^ 2 ^ o - 1) * 2 ^ t % 18446744073709551616 ≡ 2 ^ (t + 2 ^ o) - 2 ^ t)
    (λ h. omega (arith, pow-add 2 t 1, pow_mono {i = t + 1} {j = 64} h))
    (λ h. omega (arith, pow-add 2 t 2, pow_mono {i = t + 2} {j = 64} h))
    (λ h. omega (arith, pow-add 2 t 4, pow_mono {i = t + 4} {j = 64} h))
    (λ h. omega (arith, pow-add 2 t 8, pow_mono {i = t + 8} {j = 64} h))
    (λ h. omega (arith, pow-add 2 t 16, pow_mono {i = t + 16} {j = 64} h))
    (λ h. omega (arith, pow-add 2 t 32, pow_mono {i = t + 32} {j = 64} h))
    order below

-- n bits of the word at k are turned, from t on
flips_at : (words : List ℕ) (start n k t mask : ℕ) → start ≡ 64 * k + t → t + n ≤ 64 → k < length words
    → ((i : ℕ) → t ≤ i → i < t + n → bit_at mask i ≡ 1) → ((i : ℕ) → (i < t) ⊎ (t + n ≤ i) → bit_at mask i ≡ 0)
    → IsFlipped words (slice_set words k (bit_xor (get_or words k 0) mask)) start n
flips_at words start n k t mask at ends within ones zeros =
    record { same_length = length-set words k (bit_xor (get_or words k 0) mask); inside = inside; outside = outside }
  where
    -- a bit of the word at k after the turn
    here : (i : ℕ) → i / 64 ≡ k → bit_of (slice_set words k (bit_xor (get_or words k 0) mask)) i ≡ (bit_at (get_or words k 0) (i % 64) + bit_at mask (i % 64)) % 2
    here i e =
        bit_of_in (slice_set words k (bit_xor (get_or words k 0) mask)) i k e
        ∙ ap (λ w. bit_at w (i % 64)) (get_or-set_same words k (bit_xor (get_or words k 0) mask) 0 within)
        ∙ bit_at_xor (get_or words k 0) mask (i % 64)

    was : (i : ℕ) → i / 64 ≡ k → bit_of words i ≡ bit_at (get_or words k 0) (i % 64)
    was i e = bit_of_in words i k e

    inside : (i : ℕ) → start ≤ i → i < start + n → bit_of (slice_set words k (bit_xor (get_or words k 0) mask)) i ≡ 1 - bit_of words i
    inside i low high =
        let e : i / 64 ≡ k = omega arith in
        let one : bit_at mask (i % 64) ≡ 1 = ones (i % 64) (omega arith) (omega arith) in
        let h = here i e in
        let w = was i e in
        let l = bit_of_lt words i in
        omega arith

    outside : (i : ℕ) → (i < start) ⊎ (start + n ≤ i) → bit_of (slice_set words k (bit_xor (get_or words k 0) mask)) i ≡ bit_of words i
    outside i out = elim (cases_eq (i / 64) k) [
      | inl e ↦
          let zero_bit : bit_at mask (i % 64) ≡ 0 = zeros (i % 64) (elim out [ inl l ↦ inl (omega arith) | inr l ↦ inr (omega arith) ]) in
          let h = here i e in
          let w = was i e in
          let l = bit_of_lt words i in
          omega arith
      | inr ne ↦
          bit_of_in (slice_set words k (bit_xor (get_or words k 0) mask)) i (i / 64) refl
          ∙ ap (λ w. bit_at w (i % 64)) (get_or-set_other words k (i / 64) (bit_xor (get_or words k 0) mask) 0 ne)
          ∙ sym (bit_of_in words i (i / 64) refl)
    ]

pub flips_in_word : (words : List ℕ) (start order ones : ℕ) → order < 6 → start % 2 ^ order ≡ 0 → start + 2 ^ order ≤ 64 * length words → ones ≡ 2 ^ 2 ^ order - 1
    → IsFlipped words (slice_set words (start / 64) (bit_xor (get_or words (start / 64) 0) (ones * 2 ^ (start % 64) % 18446744073709551616))) start (2 ^ order)
flips_in_word words start order ones below aligned within is_ones =
    let f = in_word start order below aligned in
    let mask : ones * 2 ^ (start % 64) % 18446744073709551616 ≡ 2 ^ (start % 64 + 2 ^ order) - 2 ^ (start % 64) =
    ap (λ o. o * 2 ^ (start % 64) % 18446744073709551616) is_ones ∙ mask_is order (start % 64) below f.ends in
    flips_at words start (2 ^ order) (start / 64) (start % 64) (ones * 2 ^ (start % 64) % 18446744073709551616) (omega arith) f.ends (omega (arith, f.some))
    (λ i low high. ap (λ m. bit_at m i) mask ∙ bit_at_mask_inside (start % 64) (start % 64 + 2 ^ order) i low high)
    (λ i out. ap (λ m. bit_at m i) mask ∙ elim out [ inl l ↦ bit_at_mask_below (start % 64) (start % 64 + 2 ^ order) i l | inr l ↦ bit_at_mask_above (start % 64) (start % 64 + 2 ^ order) i l ])

-- ---- a turn of whole words

mid_below : (a k : ℕ) (xs ys : List ℕ) (j : ℕ) → a ≤ length xs → j < a → get_or (put_mid a k xs ys) j 0 ≡ get_or xs j 0
mid_below a k xs ys j inside low =
    get_or_append_left (take a xs) (ys ++ drop k (drop a xs)) 0 j (omega (arith, length-take-le a xs inside)) ∙ get_or-take a xs j 0 low

mid_inside : (a k : ℕ) (xs ys : List ℕ) (j : ℕ) → a ≤ length xs → a ≤ j → j < a + length ys → get_or (put_mid a k xs ys) j 0 ≡ get_or ys (j - a) 0
mid_inside a k xs ys j inside low high =
    get_or-append_right (take a xs) (ys ++ drop k (drop a xs)) a j 0 (length-take-le a xs inside) low
    ∙ get_or_append_left ys (drop k (drop a xs)) 0 (j - a) (omega arith)

mid_above : (a k : ℕ) (xs ys : List ℕ) (j : ℕ) → a ≤ length xs → length ys ≡ k → a + k ≤ j → get_or (put_mid a k xs ys) j 0 ≡ get_or xs j 0
mid_above a k xs ys j inside len high =
    let place : a + (k + (j - a - k)) ≡ j = omega arith in
    get_or-append_right (take a xs) (ys ++ drop k (drop a xs)) a j 0 (length-take-le a xs inside) (omega arith)
    ∙ get_or-append_right ys (drop k (drop a xs)) k (j - a) 0 len (omega arith)
    ∙ get_or-drop k (drop a xs) (j - a - k) 0
    ∙ get_or-drop a xs (k + (j - a - k)) 0
    ∙ ap (λ i. get_or xs i 0) place

-- the words from `first` on, `count` of them, are inverted
pub flips_words : (words part : List ℕ) (start first count : ℕ) → start ≡ 64 * first → first + count ≤ length words → length part ≡ count
    → ((j : ℕ) → j < count → get_or part j 0 + get_or words (first + j) 0 ≡ 18446744073709551615)
    → IsFlipped words (put_mid first count words part) start (64 * count)
flips_words words part start first count at within len turned =
    record { same_length = same_length; inside = inside; outside = outside }
  where
    same_length : length (put_mid first count words part) ≡ length words
    same_length = omega (arith, length-append (take first words) (part ++ drop count (drop first words)), length-append part (drop count (drop first words)), length-take-le first words (omega arith), length-drop count (drop first words), length-drop first words)

    inside : (i : ℕ) → start ≤ i → i < start + 64 * count → bit_of (put_mid first count words part) i ≡ 1 - bit_of words i
    inside i low high =
        let k_low : first ≤ i / 64 = omega arith in
        let k_high : i / 64 < first + count = omega arith in
        let place : first + (i / 64 - first) ≡ i / 64 = omega arith in
        let now = mid_inside first count words part (i / 64) (omega arith) k_low (omega arith) in
        let sum : get_or part (i / 64 - first) 0 + get_or words (i / 64) 0 ≡ 18446744073709551615 =
        subst (λ j. get_or part (i / 64 - first) 0 + get_or words j 0 ≡ 18446744073709551615) place (turned (i / 64 - first) (omega arith)) in
        let other : get_or (put_mid first count words part) (i / 64) 0 ≡ 18446744073709551615 - get_or words (i / 64) 0 = omega arith in
        bit_of_in (put_mid first count words part) i (i / 64) refl
        ∙ ap (λ w. bit_at w (i % 64)) other
        ∙ bit_at_not w64 (get_or words (i / 64) 0) (i % 64) (omega arith) (omega arith)
        ∙ ap (λ b. 1 - b) (sym (bit_of_in words i (i / 64) refl))

    outside : (i : ℕ) → (i < start) ⊎ (start + 64 * count ≤ i) → bit_of (put_mid first count words part) i ≡ bit_of words i
    outside i out =
        let now : get_or (put_mid first count words part) (i / 64) 0 ≡ get_or words (i / 64) 0 =
        elim out [
          | inl l ↦ mid_below first count words part (i / 64) (omega arith) (omega arith)
          | inr l ↦ mid_above first count words part (i / 64) (omega arith) len (omega arith)
        ] in
        bit_of_in (put_mid first count words part) i (i / 64) refl ∙ ap (λ w. bit_at w (i % 64)) now ∙ sym (bit_of_in words i (i / 64) refl)

-- ---- runs in a word

-- where the fold has come to runs of n bits, one step comes to runs of n + n
pub fold_step : (word runs shift n m : ℕ) → ((s : ℕ) → (bit_at runs s ≡ 1) ↔ HasOnes word s n) → shift ≡ n → m ≡ n + n
    → (s : ℕ) → (bit_at (bit_and runs (runs / 2 ^ shift)) s ≡ 1) ↔ HasOnes word s m
fold_step word runs shift n m told same twice s = (forth, back)
  where
    moved : bit_at (runs / 2 ^ shift) s ≡ bit_at runs (shift + s)
    moved = ap (λ x. x % 2) (shr-shr runs shift s)

    both : bit_at (bit_and runs (runs / 2 ^ shift)) s ≡ min (bit_at runs s) (bit_at runs (shift + s))
    both = bit_at_and runs (runs / 2 ^ shift) s ∙ ap (min (bit_at runs s)) moved

    forth : bit_at (bit_and runs (runs / 2 ^ shift)) s ≡ 1 → HasOnes word s m
    forth e i low high =
        let b = both in
        let one = bit_at-lt runs s in
        let other = bit_at-lt runs (shift + s) in
        elim (cases_lt i (s + n)) [
          | inl l ↦ (told s).0 (omega arith) i low l
          | inr l ↦ (told (shift + s)).0 (omega arith) i (omega arith) (omega arith)
        ]

    back : HasOnes word s m → bit_at (bit_and runs (runs / 2 ^ shift)) s ≡ 1
    back has =
        let one : bit_at runs s ≡ 1 = (told s).1 (λ i low high. has i low (omega arith)) in
        let other : bit_at runs (shift + s) ≡ 1 = (told (shift + s)).1 (λ i low high. has i (omega arith) (omega arith)) in
        let b = both in
        omega arith

-- the table of aligned bits
pub aligned_bits : (order s mask : ℕ) → order < 6 → s < 64
    → mask ≡ get_or (18446744073709551615 ∷ 6148914691236517205 ∷ 1229782938247303441 ∷ 72340172838076673 ∷ 281479271743489 ∷ 4294967297 ∷ []) order 0
    → (bit_at mask s ≡ 1) ↔ (s % 2 ^ order ≡ 0)
aligned_bits order s mask below small is =
    below_six (λ o. mask ≡ get_or (18446744073709551615 ∷ 6148914691236517205 ∷ 1229782938247303441 ∷ 72340172838076673 ∷ 281479271743489 ∷ 4294967297 ∷ []) o 0 → (bit_at mask s ≡ 1) ↔ (s % 2 ^ o ≡ 0))
    (λ e. same mask 18446744073709551615 1 e (agree_below_at (λ b. bit_at 18446744073709551615 b == 1) (λ b. b % 1 == 0) 64 s refl small))
    (λ e. same mask 6148914691236517205 2 e (agree_below_at (λ b. bit_at 6148914691236517205 b == 1) (λ b. b % 2 == 0) 64 s refl small))
    (λ e. same mask 1229782938247303441 4 e (agree_below_at (λ b. bit_at 1229782938247303441 b == 1) (λ b. b % 4 == 0) 64 s refl small))
    (λ e. same mask 72340172838076673 8 e (agree_below_at (λ b. bit_at 72340172838076673 b == 1) (λ b. b % 8 == 0) 64 s refl small))
    (λ e. same mask 281479271743489 16 e (agree_below_at (λ b. bit_at 281479271743489 b == 1) (λ b. b % 16 == 0) 64 s refl small))
    (λ e. same mask 4294967297 32 e (agree_below_at (λ b. bit_at 4294967297 b == 1) (λ b. b % 32 == 0) 64 s refl small))
    order below is
  where
    same : (mask bits n : ℕ) → mask ≡ bits → (bit_at bits s == 1) ≡ (s % n == 0) → (bit_at mask s ≡ 1) ↔ (s % n ≡ 0)
    same mask bits n e tests = (
      (λ one. eqb-true (s % n) 0 (sym tests ∙ eq-eqb (bit_at bits s) 1 (sym (ap (λ m. bit_at m s) e) ∙ one))),
      (λ none. ap (λ m. bit_at m s) e ∙ eqb-true (bit_at bits s) 1 (tests ∙ eq-eqb (s % n) 0 none)),
    )

-- the starts of a word are the folded runs at aligned places
pub starts_are : (word runs mask order s : ℕ) → order < 6 → s < 64 → ((r : ℕ) → (bit_at runs r ≡ 1) ↔ HasOnes word r (2 ^ order))
    → mask ≡ get_or (18446744073709551615 ∷ 6148914691236517205 ∷ 1229782938247303441 ∷ 72340172838076673 ∷ 281479271743489 ∷ 4294967297 ∷ []) order 0
    → (bit_at (bit_and runs mask) s ≡ 1) ↔ ((s % 2 ^ order ≡ 0) × HasOnes word s (2 ^ order))
starts_are word runs mask order s below small told is = (forth, back)
  where
    forth : bit_at (bit_and runs mask) s ≡ 1 → (s % 2 ^ order ≡ 0) × HasOnes word s (2 ^ order)
    forth e =
        let b = bit_at_and runs mask s in
        let one = bit_at-lt runs s in
        let other = bit_at-lt mask s in
        ((aligned_bits order s mask below small is).0 (omega arith), (told s).0 (omega arith))

    back : (s % 2 ^ order ≡ 0) × HasOnes word s (2 ^ order) → bit_at (bit_and runs mask) s ≡ 1
    back h =
        let one : bit_at runs s ≡ 1 = (told s).1 h.1 in
        let other : bit_at mask s ≡ 1 = (aligned_bits order s mask below small is).1 h.0 in
        omega (arith, bit_at_and runs mask s)

-- a run of an order below 6 is one of the starts of its word
pub record InItsWord (words : List ℕ) (order r k t : ℕ) : Type 0 where
  pub aligned : t % 2 ^ order ≡ 0
  pub ones : HasOnes (get_or words k 0) t (2 ^ order)

pub run_in_word : (words : List ℕ) (order r k t : ℕ) → order < 6 → r ≡ 64 * k + t → t < 64 → IsRun words order r → InItsWord words order r k t
run_in_word words order r k t below at small run =
    let f = in_word r order below run.aligned in
    let rest : r % 64 ≡ t = omega arith in
    record {
      aligned = subst (λ x. x % 2 ^ order ≡ 0) rest f.aligned;
      ones = λ i low high.
          let e : (64 * k + i) / 64 ≡ k = omega (arith, f.ends) in
          let place : (64 * k + i) % 64 ≡ i = omega (arith, f.ends) in
          sym (ap (bit_at (get_or words k 0)) place) ∙ sym (bit_of_in words (64 * k + i) k e) ∙ run.ones (64 * k + i) (omega arith) (omega arith);
    }

pub run_from_word : (words : List ℕ) (order k t : ℕ) → order < 6 → t < 64 → t % 2 ^ order ≡ 0 → HasOnes (get_or words k 0) t (2 ^ order) → IsRun words order (64 * k + t)
run_from_word words order k t below small aligned ones =
    let f = in_word t order below aligned in
    let rest : t % 64 ≡ t = omega arith in
    record {
      aligned = from_word k t order below small aligned;
      ones = λ i low high.
          let e : i / 64 ≡ k = omega (arith, f.ends) in
          bit_of_in words i k e ∙ ones (i % 64) (omega arith) (omega (arith, f.ends));
    }

-- ---- runs of whole words

-- the words from `first` on, `count` of them, have all bits set
abbrev pub AllSet : List ℕ → ℕ → ℕ → Type 0
AllSet words first count = (j : ℕ) → j < count → get_or words (first + j) 0 ≡ 18446744073709551615

-- an aligned start of an order from 6 on is that of a word at a multiple of its words
pub record AtWords (order r first : ℕ) : Type 0 where
  pub start : r ≡ 64 * first
  pub aligned : first % 2 ^ (order - 6) ≡ 0

pub at_words : (order r : ℕ) → 6 ≤ order → order ≤ 10 → r % 2 ^ order ≡ 0 → AtWords order r (r / 64)
at_words order r low high =
    six_to_ten (λ o. r % 2 ^ o ≡ 0 → AtWords o r (r / 64))
    (λ h. record { start = omega arith; aligned = omega arith })
    (λ h. record { start = omega arith; aligned = omega arith })
    (λ h. record { start = omega arith; aligned = omega arith })
    (λ h. record { start = omega arith; aligned = omega arith })
    (λ h. record { start = omega arith; aligned = omega arith })
    order low high

pub from_words : (order first : ℕ) → 6 ≤ order → order ≤ 10 → first % 2 ^ (order - 6) ≡ 0 → 64 * first % 2 ^ order ≡ 0
from_words order first low high =
    six_to_ten (λ o. first % 2 ^ (o - 6) ≡ 0 → 64 * first % 2 ^ o ≡ 0)
    (λ h. omega arith) (λ h. omega arith) (λ h. omega arith) (λ h. omega arith) (λ h. omega arith)
    order low high

-- the next multiple, and none between
pub next_words : (order first : ℕ) → 6 ≤ order → order ≤ 10 → first % 2 ^ (order - 6) ≡ 0 → (first + 2 ^ (order - 6)) % 2 ^ (order - 6) ≡ 0
next_words order first low high =
    six_to_ten (λ o. first % 2 ^ (o - 6) ≡ 0 → (first + 2 ^ (o - 6)) % 2 ^ (o - 6) ≡ 0)
    (λ h. omega arith) (λ h. omega arith) (λ h. omega arith) (λ h. omega arith) (λ h. omega arith)
    order low high

none_between : (order first other : ℕ) → 6 ≤ order → order ≤ 10 → first % 2 ^ (order - 6) ≡ 0 → other % 2 ^ (order - 6) ≡ 0 → first ≤ other → other < first + 2 ^ (order - 6) → other ≡ first
none_between order first other low high =
    six_to_ten (λ o. first % 2 ^ (o - 6) ≡ 0 → other % 2 ^ (o - 6) ≡ 0 → first ≤ other → other < first + 2 ^ (o - 6) → other ≡ first)
    (λ a b l h. omega arith) (λ a b l h. omega arith) (λ a b l h. omega arith) (λ a b l h. omega arith) (λ a b l h. omega arith)
    order low high

pub run_from_words : (words : List ℕ) (order first : ℕ) → 6 ≤ order → order ≤ 10 → first % 2 ^ (order - 6) ≡ 0 → AllSet words first (2 ^ (order - 6)) → IsRun words order (64 * first)
run_from_words words order first low high aligned set =
    let f = of_words order low high in
    record {
      aligned = from_words order first low high aligned;
      ones = λ i l h.
          let place : first + (i / 64 - first) ≡ i / 64 = omega (arith, f.count) in
          let full : get_or words (i / 64) 0 ≡ 18446744073709551615 = sym (ap (λ j. get_or words j 0) place) ∙ set (i / 64 - first) (omega (arith, f.count)) in
          bit_of_in words i (i / 64) refl ∙ ap (λ w. bit_at w (i % 64)) full ∙ bit_at_ones 64 (i % 64) (omega arith);
    }

pub words_from_run : (words : List ℕ) (order first : ℕ) → 6 ≤ order → order ≤ 10 → ((j : ℕ) → j < length words → get_or words j 0 < 18446744073709551616) → IsRun words order (64 * first) → AllSet words first (2 ^ (order - 6))
words_from_run words order first low high fits run j below =
    let f = of_words order low high in
    let within : first + j < length words = let last = bit_of_within words (64 * (first + j)) (run.ones (64 * (first + j)) (omega arith) (omega (arith, f.count))) in omega arith in
    same_from_bits_below 64 (get_or words (first + j) 0) 18446744073709551615 (fits (first + j) within) (omega arith)
    (λ i l.
    let e : (64 * (first + j) + i) / 64 ≡ first + j = omega arith in
    let place : (64 * (first + j) + i) % 64 ≡ i = omega arith in
    sym (ap (bit_at (get_or words (first + j) 0)) place) ∙ sym (bit_of_in words (64 * (first + j) + i) (first + j) e)
    ∙ run.ones (64 * (first + j) + i) (omega arith) (omega (arith, f.count)) ∙ sym (bit_at_ones 64 i l))

-- the search has come to a word at a multiple of the run's words, and no run starts before it
pub record WordsBefore (words : List ℕ) (order first : ℕ) : Type 0 where
  pub within : first ≤ length words
  pub aligned : first % 2 ^ (order - 6) ≡ 0
  pub none : (r : ℕ) → r < 64 * first → ¬ IsRun words order r

-- it goes on
pub words_more : (words : List ℕ) (order first : ℕ) → 6 ≤ order → order ≤ 10 → WordsBefore words order first → first + 2 ^ (order - 6) ≤ length words → ¬ IsRun words order (64 * first) → WordsBefore words order (first + 2 ^ (order - 6))
words_more words order first low high before within unset =
    record {
      within = within;
      aligned = next_words order first low high before.aligned;
      none = λ r l run. elim (cases_lt r (64 * first)) [
        | inl l' ↦ before.none r l' run
        | inr h ↦
            let at = at_words order r low high run.aligned in
            let same : r / 64 ≡ first = none_between order first (r / 64) low high before.aligned at.aligned (omega (arith, at.start)) (omega (arith, at.start)) in
            let is : r ≡ 64 * first = omega (arith, at.start) in
            unset (subst (λ s. IsRun words order s) is run)
      ];
    }

-- it has come to the end
pub words_none : (words : List ℕ) (order first : ℕ) → 6 ≤ order → order ≤ 10 → WordsBefore words order first → length words < first + 2 ^ (order - 6) → HasNoRun words order
words_none words order first low high before past s run =
    let f = of_words order low high in
    elim (cases_lt s (64 * first)) [
      | inl l ↦ before.none s l run
      | inr h ↦
          let last = bit_of_within words (s + 2 ^ order - 1) (run.ones (s + 2 ^ order - 1) (omega (arith, f.count, f.some)) (omega (arith, f.count, f.some))) in
          absurd (omega (arith, f.count, f.some))
    ]

-- it has found one
pub words_found : (words : List ℕ) (order first : ℕ) → 6 ≤ order → order ≤ 10 → WordsBefore words order first → AllSet words first (2 ^ (order - 6)) → IsLeastRun words order (64 * first)
words_found words order first low high before set =
    record { is = run_from_words words order first low high before.aligned set; least = before.none }

-- ---- the search in single words

-- no start in the word at k
pub word_more : (words : List ℕ) (order k : ℕ) → order < 6 → ((r : ℕ) → r < 64 * k → ¬ IsRun words order r)
    → ((t : ℕ) → t < 64 → (t % 2 ^ order ≡ 0) × HasOnes (get_or words k 0) t (2 ^ order) → ⊥)
    → (r : ℕ) → r < 64 * (k + 1) → ¬ IsRun words order r
word_more words order k below before none r l run = elim (cases_lt r (64 * k)) [
  | inl l' ↦ before r l' run
  | inr h ↦
      let i = run_in_word words order r k (r - 64 * k) below (omega arith) (omega arith) run in
      none (r - 64 * k) (omega arith) (i.aligned, i.ones)
]

-- the least start in the word at k
pub word_found : (words : List ℕ) (order k t : ℕ) → order < 6 → t < 64 → ((r : ℕ) → r < 64 * k → ¬ IsRun words order r)
    → (t % 2 ^ order ≡ 0) × HasOnes (get_or words k 0) t (2 ^ order)
    → ((s : ℕ) → s < t → (s % 2 ^ order ≡ 0) × HasOnes (get_or words k 0) s (2 ^ order) → ⊥)
    → IsLeastRun words order (64 * k + t)
word_found words order k t below small before is least =
    record {
      is = run_from_word words order k t below small is.0 is.1;
      least = λ r l run. elim (cases_lt r (64 * k)) [
        | inl l' ↦ before r l' run
        | inr h ↦
            let i = run_in_word words order r k (r - 64 * k) below (omega arith) (omega arith) run in
            least (r - 64 * k) (omega arith) (i.aligned, i.ones)
      ];
    }

-- no word has one
pub word_none : (words : List ℕ) (order : ℕ) → order < 6 → ((r : ℕ) → r < 64 * length words → ¬ IsRun words order r) → HasNoRun words order
word_none words order below before s run =
    let f = in_word s order below run.aligned in
    before s (bit_of_within words s (run.ones s (omega arith) (omega (arith, f.some)))) run
