-- The places of a slab as bits: which is the lowest that is free, whether one is, and how they change.
use Rattle.std.proofs.Common.{ℕ, ◌≡◌, ◌≢◌, ◌+◌, ◌-◌, ◌*◌, ◌/◌, ◌%◌, ◌^◌, ◌<◌, ◌≤◌, ◌==◌, Bool, true, false, not, get_or, slice_set, replicate, position, unwrap_or, refl, sym, ap, ◌∙◌, inl, inr, arith, bit_or, bit_and, w64}
use Rattle.std.specs.Int.{bit_at, bit_not, trailing_zeros}
use Rattle.std.specs.List.{list_any}
use Rattle.std.proofs.Math.Pow.{pow_mono}
use Rattle.std.proofs.lemmas.Bool.{cases_eq, cases_lt, false≢true, eq-eqb, ne_eqb}
use Rattle.std.proofs.lemmas.List.{same_lists, get_or-replicate, length-replicate}
use Rattle.std.proofs.lemmas.List.Elements.{All-from_get_or}
use Rattle.std.proofs.lemmas.List.Folds.{list_any_at, list_any_none}
use Rattle.std.proofs.lemmas.Nat.Bits.{bit_at-lt, bit_at-zero, bit_at_and, bit_at-trailing_zeros, bit_at_cat_high, bit_at_ones, bit_at_ones_above, bit_at_set_same, bit_at_set_other, bit_at_clear_same, bit_at_clear_other, same_from_bits, same_from_bits_below}
use Rattle.slab_cache.specs.Bits.{places_of}
use Rattle.slab_cache.proofs.Marks.{first_mark, length_marks, mark_at, set_mark}

taken_at : ℕ → ℕ → Bool
taken_at free i = bit_at free i == 0

-- no bit is set past the places
abbrev pub Beyond : ℕ → ℕ → Type 0
Beyond objects free = (i : ℕ) → objects ≤ i → bit_at free i ≡ 0

pub within_places : (objects free i : ℕ) → Beyond objects free → bit_at free i ≡ 1 → i < objects
within_places objects free i beyond one = elim (cases_lt i objects) [ inl below ↦ below | inr past ↦ absurd (let none = beyond i past in omega arith) ]

pub fits_word : (objects free : ℕ) → objects ≤ 64 → Beyond objects free → free < 2 ^ 64
fits_word objects free few beyond =
    let high = free / 2 ^ 64 in
    let low = free % 2 ^ 64 in
    let whole : high * 2 ^ 64 + low ≡ free = omega arith in
    let none : high ≡ 0 = same_from_bits high 0 (λ i.
    let place : i + 64 - 64 ≡ i = omega arith in
    ap (bit_at high) (sym place) ∙ sym (bit_at_cat_high high 64 low (i + 64) (omega arith) (omega arith)) ∙ ap (λ n. bit_at n (i + 64)) whole ∙ beyond (i + 64) (omega arith) ∙ sym (bit_at-zero i)) in
    omega (arith, none)

-- ---- the lowest

pub record Lowest (objects free : ℕ) : Type 0 where
  pub within : trailing_zeros w64 free < objects
  pub short : trailing_zeros w64 free < 64
  pub one : bit_at free (trailing_zeros w64 free) ≡ 1
  pub is : unwrap_or (position not (places_of objects free)) 0 ≡ trailing_zeros w64 free

pub lowest : (objects free : ℕ) → Beyond objects free → 0 < free → free < 2 ^ 64 → Lowest objects free
lowest objects free beyond some fits =
    let z = bit_at-trailing_zeros w64 free some fits in
    let within = within_places objects free (trailing_zeros w64 free) beyond z.1 in
    record {
      within = within;
      short = z.0;
      one = z.1;
      is = ap (λ o. unwrap_or o 0)
          (first_mark not (λ i. bit_at free i == 0) objects (trailing_zeros w64 free) within (ap not (ne_eqb _ 0 (λ e. absurd (omega (arith, z.1)))))
          (λ k below. ap not (eq-eqb _ 0 (z.2 k below))));
    }

-- ---- whether a place is free, and whether one is taken

pub any_free : (objects free : ℕ) → Beyond objects free → free < 2 ^ 64 → list_any not (places_of objects free) ≡ not (free == 0)
any_free objects free beyond fits = elim (cases_eq free 0) [
  | inl none ↦ (
      list_any_none not (places_of objects free) (All-from_get_or (λ b. not b ≡ false) (places_of objects free) true (λ i below.
      let inside : i < objects = omega (arith, length_marks (λ k. bit_at free k == 0) objects) in
      ap not (mark_at (λ k. bit_at free k == 0) objects i true inside ∙ eq-eqb _ 0 (ap (λ f. bit_at f i) none ∙ bit_at-zero i))))
      ∙ sym (ap not (eq-eqb free 0 none)))
  | inr some ↦ (
      let low = lowest objects free beyond (let ne : free ≢ 0 = some in omega arith) fits in
      list_any_at not (places_of objects free) (trailing_zeros w64 free) true (let l = low.within in omega (arith, length_marks (λ i. bit_at free i == 0) objects))
      (ap not (mark_at (λ i. bit_at free i == 0) objects (trailing_zeros w64 free) true low.within ∙ ne_eqb _ 0 (λ e. absurd (omega (arith, low.one)))))
      ∙ sym (ap not (ne_eqb free 0 some)))
]

-- all places are free exactly where each bit is set
pub none_taken : (objects : ℕ) → list_any (λ taken. taken) (places_of objects (2 ^ objects - 1)) ≡ false
none_taken objects =
    let free = 2 ^ objects - 1 in
    list_any_none (λ taken. taken) (places_of objects free) (All-from_get_or (λ b. b ≡ false) (places_of objects free) true (λ i below.
    let inside : i < objects = omega (arith, length_marks (λ k. bit_at free k == 0) objects) in
    mark_at (λ k. bit_at free k == 0) objects i true inside ∙ ne_eqb _ 0 (λ e. absurd (omega (arith, bit_at_ones objects i inside)))))

-- a place that isn't taken has its bit set
pub free_bit : (objects free i : ℕ) → i < objects → get_or (places_of objects free) i true ≡ false → bit_at free i ≡ 1
free_bit objects free i inside is =
    let value : (bit_at free i == 0) ≡ false = sym (mark_at (λ k. bit_at free k == 0) objects i true inside) ∙ is in
    elim (cases_eq (bit_at free i) 0) [
      | inl none ↦ absurd (false≢true (sym value ∙ eq-eqb _ 0 none))
      | inr some ↦ (let small = bit_at-lt free i in let ne : bit_at free i ≢ 0 = some in omega arith)
    ]

pub all_set : (objects free : ℕ) → objects ≤ 64 → Beyond objects free → free < 2 ^ 64 → list_any (λ taken. taken) (places_of objects free) ≡ false → free ≡ 2 ^ objects - 1
all_set objects free few beyond fits none =
    same_from_bits_below 64 free (2 ^ objects - 1) fits (omega (arith, pow_mono {i = objects} {j = 64} few))
    (λ i below. elim (cases_lt i objects) [
      | inl inside ↦ free_bit objects free i inside (never i inside) ∙ sym (bit_at_ones objects i inside)
      | inr past ↦ beyond i past ∙ sym (bit_at_ones_above objects i past)
    ])
  where
    never : (i : ℕ) → i < objects → get_or (places_of objects free) i true ≡ false
    never i inside = by_value (get_or (places_of objects free) i true) refl
      where
        by_value : (b : Bool) → get_or (places_of objects free) i true ≡ b → get_or (places_of objects free) i true ≡ false
        by_value true is = absurd (false≢true (sym none ∙ list_any_at (λ taken. taken) (places_of objects free) i true (omega (arith, length_marks (λ k. bit_at free k == 0) objects)) is))
        by_value false is = is

pub any_taken : (objects free : ℕ) → objects ≤ 64 → Beyond objects free → free < 2 ^ 64 → list_any (λ taken. taken) (places_of objects free) ≡ not (free == 2 ^ objects - 1)
any_taken objects free few beyond fits = elim (cases_eq free (2 ^ objects - 1)) [
  | inl same ↦ ap (λ f. list_any (λ taken. taken) (places_of objects f)) same ∙ none_taken objects ∙ sym (ap not (eq-eqb free _ same))
  | inr ne ↦ by_value (list_any (λ taken. taken) (places_of objects free)) refl ne ∙ sym (ap not (ne_eqb free _ ne))
]
  where
    by_value : (b : Bool) → list_any (λ taken. taken) (places_of objects free) ≡ b → free ≢ 2 ^ objects - 1 → list_any (λ taken. taken) (places_of objects free) ≡ true
    by_value true is ne = is
    by_value false is ne = absurd (ne (all_set objects free few beyond fits is))

-- a new slab's places
pub all_free_places : (objects : ℕ) → places_of objects (2 ^ objects - 1) ≡ replicate objects false
all_free_places objects =
    let bits : ℕ → Bool = λ i. bit_at (2 ^ objects - 1) i == 0 in
    same_lists _ _ (length_marks bits objects ∙ sym (length-replicate objects false))
    (λ k d below.
    let inside : k < objects = omega (arith, length_marks bits objects) in
    mark_at bits objects k d inside ∙ ne_eqb _ 0 (λ e. absurd (omega (arith, bit_at_ones objects k inside))) ∙ sym (get_or-replicate objects k false d inside))

-- ---- a place is taken, and free again

pub record Takes (objects free after i : ℕ) : Type 0 where
  pub places : places_of objects after ≡ slice_set (places_of objects free) i true
  pub beyond : Beyond objects after
  pub here : bit_at after i ≡ 0
  pub other : (k : ℕ) → k < 64 → k ≢ i → bit_at after k ≡ bit_at free k

pub taken_out : (objects free after i : ℕ) → objects ≤ 64 → i < objects → Beyond objects free → after ≡ bit_and free (bit_not w64 (1 * 2 ^ i % 2 ^ 64)) → Takes objects free after i
taken_out objects free after i few inside beyond is =
    let here : bit_at after i ≡ 0 = ap (λ n. bit_at n i) is ∙ bit_at_clear_same w64 free i (omega arith) in
    let other : (k : ℕ) → k < 64 → k ≢ i → bit_at after k ≡ bit_at free k = λ k below ne. ap (λ n. bit_at n k) is ∙ bit_at_clear_other w64 free i (omega arith) k below ne in
    record {
      places = set_mark (λ k. bit_at free k == 0) (λ k. bit_at after k == 0) objects i true (eq-eqb _ 0 here) (λ k below ne. ap (λ b. b == 0) (other k (omega arith) ne));
      beyond = λ k past. elim (cases_lt k 64) [
        | inl below ↦ other k below (λ e. absurd (omega arith)) ∙ beyond k past
        | inr high ↦ (let none = beyond k past in ap (λ n. bit_at n k) is ∙ bit_at_and free (bit_not w64 (1 * 2 ^ i % 2 ^ 64)) k ∙ omega (arith, none))
      ];
      here = here;
      other = other;
    }

pub record Gives (objects free after i : ℕ) : Type 0 where
  pub places : places_of objects after ≡ slice_set (places_of objects free) i false
  pub beyond : Beyond objects after
  pub other : (k : ℕ) → k ≢ i → bit_at after k ≡ bit_at free k

pub given_in : (objects free after i : ℕ) → objects ≤ 64 → i < objects → Beyond objects free → after ≡ bit_or free (1 * 2 ^ i % 2 ^ 64) → Gives objects free after i
given_in objects free after i few inside beyond is =
    let here : bit_at after i ≡ 1 = ap (λ n. bit_at n i) is ∙ bit_at_set_same w64 free i (omega arith) in
    let other : (k : ℕ) → k ≢ i → bit_at after k ≡ bit_at free k = λ k ne. ap (λ n. bit_at n k) is ∙ bit_at_set_other w64 free i (omega arith) k ne in
    record {
      places = set_mark (λ k. bit_at free k == 0) (λ k. bit_at after k == 0) objects i false (ne_eqb _ 0 (λ e. absurd (omega arith))) (λ k below ne. ap (λ b. b == 0) (other k ne));
      beyond = λ k past. other k (λ e. absurd (omega arith)) ∙ beyond k past;
      other = other;
    }
