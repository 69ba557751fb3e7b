-- A set of frames as bits.
use Rattle.std.proofs.Common.{ℕ, zero, suc, IsTrue, not, ◌++◌, take, drop, ◌≡◌, ◌≢◌, ◌+◌, ◌-◌, ◌/◌, ◌%◌, ◌<◌, ◌≤◌, ◌==◌, Bool, true, false, List, length, get_or, slice_set, replicate, position, MatchOption, Option, Some, None, refl, sym, ap, ◌∙◌, subst, inl, inr, arith}
use mathlib.Core.Bool.{beq}
use Rattle.std.specs.Int.{bit_at}
use Rattle.std.proofs.lemmas.Bool.{cases_lt, false≢true, eq-eqb, ne_eqb}
use Rattle.std.proofs.lemmas.List.{same_lists, get_or-replicate, length-replicate}
use Rattle.std.proofs.lemmas.Nat.Bits.{bit_at-zero}
use Rattle.buddy.specs.Bits.{bit_of, IsRun, IsLeastRun, HasNoRun, IsFlipped}
use Rattle.buddy.proofs.Runs.{bit_of_in, bit_of_lt}
use Rattle.buddy.proofs.ZoneLemmas.{written}
use Rattle.slab_cache.specs.Bits.{IsFrameSet, IsPut, set_bits}
use Rattle.slab_cache.proofs.Marks.{first_mark, length_marks, mark_at, no_mark, set_mark}

one_run : (words : List ℕ) (s : ℕ) → bit_of words s ≡ 1 → IsRun words 0 s
one_run words s one = record { aligned = omega arith; ones = λ i low high. let same : s ≡ i = omega arith in subst (λ n. bit_of words n ≡ 1) same one }

unset : (words : List ℕ) (i : ℕ) → ¬ IsRun words 0 i → (bit_of words i == 1) ≡ false
unset words i none = ne_eqb (bit_of words i) 1 (λ one. none (one_run words i one))

pub lowest_is : (words : List ℕ) (frames : ℕ) (r : Option ℕ) → IsFrameSet words frames → MatchOption r (HasNoRun words 0) (IsLeastRun words 0) → r ≡ position (λ inside. inside) (set_bits frames words)
lowest_is words frames None set none = sym (no_mark (λ inside. inside) (λ i. bit_of words i == 1) frames (λ k below. unset words k (none k)))
lowest_is words frames (Some s) set least =
    let one : bit_of words s ≡ 1 = least.is.ones s (omega arith) (omega arith) in
    let within : s < frames = elim (cases_lt s frames) [ inl below ↦ below | inr past ↦ absurd (let zero_bit = set.beyond s past in omega arith) ] in
    sym (first_mark (λ inside. inside) (λ i. bit_of words i == 1) frames s within (eq-eqb (bit_of words s) 1 one) (λ k below. unset words k (least.least k below)))

pub put_is : (words new : List ℕ) (frames bit : ℕ) (inside : Bool) → IsPut words new bit inside → set_bits frames new ≡ slice_set (set_bits frames words) bit inside
put_is words new frames bit inside put = set_mark (λ i. bit_of words i == 1) (λ i. bit_of new i == 1) frames bit inside put.here (λ k below ne. ap (λ b. b == 1) (put.other k ne))

pub put_keeps : (words new : List ℕ) (frames bit : ℕ) (inside : Bool) → IsFrameSet words frames → bit < frames → IsPut words new bit inside → IsFrameSet new frames
put_keeps words new frames bit inside set within put = record {
  words_few = (let few = set.words_few in omega (arith, put.same_length));
  enough = (let enough = set.enough in omega (arith, put.same_length));
  beyond = λ i past. put.other i (λ same. absurd (omega arith)) ∙ set.beyond i past;
}

-- ---- one bit

pub stays : (words : List ℕ) (bit : ℕ) (inside : Bool) → (bit_of words bit == 1) ≡ inside → IsPut words words bit inside
stays words bit inside is = record { same_length = refl; here = is; other = λ i ne. refl }

turned : (old new : ℕ) (r inside : Bool) → old < 2 → new ≡ 1 - old → (IsTrue r → old ≡ 1) × (old ≡ 1 → IsTrue r) → not (beq r inside) ≡ true → (new == 1) ≡ inside
turned old new true true small is decides differs = absurd (false≢true differs)
turned old new true false small is decides differs = let one : old ≡ 1 = decides.0 refl in ne_eqb new 1 (λ e. absurd (omega arith))
turned old new false true small is decides differs = let none : old ≢ 1 = λ e. false≢true (decides.1 e) in eq-eqb new 1 (omega arith)
turned old new false false small is decides differs = absurd (false≢true differs)

pub flips : (words new : List ℕ) (bit : ℕ) (r inside : Bool) → (IsTrue r → bit_of words bit ≡ 1) × (bit_of words bit ≡ 1 → IsTrue r) → not (beq r inside) ≡ true → IsFlipped words new bit 1 → IsPut words new bit inside
flips words new bit r inside decides differs flipped = record {
  same_length = flipped.same_length;
  here = turned (bit_of words bit) (bit_of new bit) r inside (bit_of_lt words bit) (flipped.inside bit (omega arith) (omega arith)) decides differs;
  other = λ i other. flipped.outside i (elim (cases_lt i bit) [ inl low ↦ inl low | inr high ↦ inr (let ne : i ≢ bit = other in omega arith) ]);
}

-- ---- none

zeros : (m k : ℕ) → ◌≡◌ {A = ℕ} (get_or {A = ℕ} (replicate {A = ℕ} m 0) k 0) 0
zeros zero k = refl
zeros (suc m) zero = refl
zeros (suc m) (suc k) = zeros m k

no_bit : (m i : ℕ) → bit_of (replicate m 0) i ≡ 0
no_bit m i = bit_of_in (replicate m 0) i (i / 64) refl ∙ ap (λ w. bit_at w (i % 64)) (zeros m (i / 64)) ∙ bit_at-zero (i % 64)

pub fresh_set : (frames : ℕ) (words : List ℕ) → words ≡ replicate (frames / 64 + 1) 0 → frames ≤ 1024 → IsFrameSet words frames
fresh_set frames words is few =
    subst (λ ws. IsFrameSet ws frames) (sym is)
    (let long = length-replicate {A = ℕ} (frames / 64 + 1) 0 in
    record { words_few = omega (arith, long, few); enough = omega (arith, long); beyond = λ i past. no_bit (frames / 64 + 1) i })

pub fresh_is : (frames : ℕ) (words : List ℕ) → words ≡ replicate (frames / 64 + 1) 0 → set_bits frames words ≡ replicate frames false
fresh_is frames words is =
    subst (λ ws. set_bits frames ws ≡ replicate frames false) (sym is)
    (let bits : ℕ → Bool = λ i. bit_of (replicate (frames / 64 + 1) 0) i == 1 in
    same_lists _ _ (length_marks bits frames ∙ sym (length-replicate frames false))
    (λ k d below.
    let within : k < frames = omega (arith, length_marks bits frames) in
    mark_at bits frames k d within ∙ ap (λ b. b == 1) (no_bit (frames / 64 + 1) k) ∙ sym (get_or-replicate frames k false d within)))

-- ---- a set whose words were lent

pub put_all : (len frames frame : ℕ) (items now new : List ℕ) (inside : Bool) (marks : List Bool) → len ≡ length items → now ≡ items → set_bits frames items ≡ marks → frame < length marks → IsFrameSet items frames → IsPut now new frame inside
    → IsFrameSet (take len (new ++ drop (length new) items)) frames × (set_bits frames (take len (new ++ drop (length new) items)) ≡ slice_set marks frame inside)
put_all len frames frame items now new inside marks is_len lent is within set put =
    let here : IsPut items new frame inside = subst (λ ws. IsPut ws new frame inside) lent put in
    let back = written len new items (here.same_length ∙ sym is_len) in
    let below : frame < frames = omega (arith, ap (λ (bs : List Bool). length bs) is, length_marks (λ i. bit_of items i == 1) frames) in (
      subst (λ ws. IsFrameSet ws frames) (sym back) (put_keeps items new frames frame inside set below here),
      ap (set_bits frames) back ∙ put_is items new frames frame inside here ∙ ap (λ bs. slice_set bs frame inside) is,
    )
