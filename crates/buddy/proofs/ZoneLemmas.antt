-- The frames that a zone's words stand for: runs of set bits are starts, and a turn of bits marks frames.
use Rattle.std.proofs.Common.{ℕ, ◌≡◌, ◌+◌, ◌-◌, ◌*◌, ◌/◌, ◌%◌, ◌^◌, ◌<◌, ◌≤◌, ◌⊎◌, ◌↔◌, ◌==◌, ◌++◌, IsTrue, Bool, true, false, not, List, [], ◌∷◌, length, get_or, take, drop, replicate, slice_get, Some, count_by, cond, inl, inr, refl, sym, ap, ◌∙◌, arith}
use Rattle.std.specs.Int.{bit_at}
use Rattle.std.proofs.lemmas.List.{same_lists, length-replicate, get_or-replicate, get_or-append_right, get_or_append_left, length-append, take_at}
use Rattle.std.proofs.lemmas.List.Sums.{count_by-le-length}
use Rattle.std.proofs.lemmas.List.FromFn.{length-map-range_with_len, get_or-map-range_with_len}
use Rattle.std.proofs.lemmas.List.Folds.{sum_by-replicate}
use Rattle.std.proofs.lemmas.Option.{slice_get_within, slice_get-get_or, get_or_from_slice_get}
use Rattle.std.proofs.lemmas.Bool.{eq-eqb, cases_lt, cases_eq, cases_Bool, ne_eqb, eqb-true, eqb-false, both_ways, not-true}
use Rattle.std.proofs.lemmas.Nat.{pow_pos}
use Rattle.std.proofs.lemmas.Nat.Bits.{bit_at_ones, bit_at_ones_above}
use Rattle.buddy.specs.Frames.{marked, AllAre, IsStart, IsLeastStart, HasNoStart}
use Rattle.buddy.specs.Bits.{bit_of, IsRun, IsLeastRun, HasNoRun, IsFlipped, frames_of, IsZone}
use Rattle.buddy.proofs.Runs.{bit_of_in, bit_of_lt, bit_of_past, bit_of_within}
use Rattle.buddy.proofs.FrameLemmas.{all_within, length-marked, marked_inside, marked_outside, count_taken, count_given}

-- ---- the frames, one by one

frames_length : (frames : ℕ) (words : List ℕ) → length (frames_of frames words) ≡ frames
frames_length frames words = length-map-range_with_len (λ i. bit_of words i == 0) 0 frames

frame_at : (frames : ℕ) (words : List ℕ) (i : ℕ) (d : Bool) → i < frames → get_or (frames_of frames words) i d ≡ (bit_of words i == 0)
frame_at frames words i d below = get_or-map-range_with_len (λ j. bit_of words j == 0) 0 frames i i d below (omega arith)

-- a frame is free where its bit is set, and taken where it isn't
all_free : (words : List ℕ) (frames free start order : ℕ) → IsZone words frames free → ((i : ℕ) → start ≤ i → i < start + 2 ^ order → bit_of words i ≡ 1) → AllAre false (frames_of frames words) start order
all_free words frames free start order zone ones i low high =
    let one = ones i low high in
    let below : i < frames = elim (cases_lt i frames) [ inl l ↦ l | inr past ↦ absurd (omega (arith, zone.beyond i past)) ] in
    slice_get-get_or (frames_of frames words) i false (omega (arith, frames_length frames words))
    ∙ ap (λ b. Some b) (frame_at frames words i false below ∙ ne_eqb (bit_of words i) 0 (λ e. omega arith))

free_bit : (words : List ℕ) (frames start order i : ℕ) → AllAre false (frames_of frames words) start order → start ≤ i → i < start + 2 ^ order → bit_of words i ≡ 1
free_bit words frames start order i all low high =
    let here = all i low high in
    let below : i < frames = omega (arith, slice_get_within (frames_of frames words) i false here, frames_length frames words) in
    let test : (bit_of words i == 0) ≡ false = sym (frame_at frames words i false below) ∙ get_or_from_slice_get (frames_of frames words) i false false here in
    let some = eqb-false (bit_of words i) 0 test in
    omega (arith, bit_of_lt words i)

taken_bit : (words : List ℕ) (frames start order i : ℕ) → AllAre true (frames_of frames words) start order → start ≤ i → i < start + 2 ^ order → bit_of words i ≡ 0
taken_bit words frames start order i all low high =
    let here = all i low high in
    let below : i < frames = omega (arith, slice_get_within (frames_of frames words) i true here, frames_length frames words) in
    eqb-true (bit_of words i) 0 (sym (frame_at frames words i true below) ∙ get_or_from_slice_get (frames_of frames words) i true true here)

-- ---- starts

start_of_run : (words : List ℕ) (frames free order start : ℕ) → IsZone words frames free → IsRun words order start → IsStart (frames_of frames words) order start
start_of_run words frames free order start zone run = record { aligned = run.aligned; free = all_free words frames free start order zone run.ones }

run_of_start : (words : List ℕ) (frames order start : ℕ) → IsStart (frames_of frames words) order start → IsRun words order start
run_of_start words frames order start s = record { aligned = s.aligned; ones = λ i low high. free_bit words frames start order i s.free low high }

pub least_of_run : (words : List ℕ) (frames free order start : ℕ) → IsZone words frames free → IsLeastRun words order start → IsLeastStart (frames_of frames words) order start
least_of_run words frames free order start zone run =
    record { is = start_of_run words frames free order start zone run.is; least = λ other below s. run.least other below (run_of_start words frames order other s) }

pub none_of_run : (words : List ℕ) (frames order : ℕ) → HasNoRun words order → HasNoStart (frames_of frames words) order
none_of_run words frames order none start s = none start (run_of_start words frames order start s)

-- ---- a turn of bits

pub record Turned (frames : ℕ) (words new : List ℕ) (b : Bool) (start order : ℕ) : Type 0 where
  pub after : frames_of frames new ≡ marked b start order (frames_of frames words)
  pub within : start + 2 ^ order ≤ frames

turned : (words new : List ℕ) (frames start order value : ℕ) (b c : Bool) → AllAre c (frames_of frames words) start order → IsFlipped words new start (2 ^ order)
    → ((i : ℕ) → start ≤ i → i < start + 2 ^ order → bit_of new i ≡ value) → (value == 0) ≡ b → Turned frames words new b start order
turned words new frames start order value b c all flipped inside test =
    let len = frames_length frames words in
    let fits : start + 2 ^ order ≤ length (frames_of frames words) = all_within c (frames_of frames words) start order all in
    record {
      within = omega arith;
      after = same_lists (frames_of frames new) (marked b start order (frames_of frames words))
          (frames_length frames new ∙ sym len ∙ sym (length-marked b start order (frames_of frames words) fits))
          (λ i d below.
          let low : i < frames = omega (arith, frames_length frames new) in
          frame_at frames new i d low
          ∙ elim (cases_lt i start) [
            | inl l ↦ same i d low fits (inl l)
            | inr h ↦ elim (cases_lt i (start + 2 ^ order)) [
              | inl l ↦ ap (λ n. n == 0) (inside i h l) ∙ test ∙ sym (marked_inside b d start order (frames_of frames words) i fits h l)
              | inr p ↦ same i d low fits (inr p)
            ]
          ]);
    }
  where
    same : (i : ℕ) (d : Bool) → i < frames → start + 2 ^ order ≤ length (frames_of frames words) → (i < start) ⊎ (start + 2 ^ order ≤ i) → (bit_of new i == 0) ≡ get_or (marked b start order (frames_of frames words)) i d
    same i d low fits out =
        ap (λ n. n == 0) (flipped.outside i out) ∙ sym (frame_at frames words i d low) ∙ sym (marked_outside b d start order (frames_of frames words) i fits out)

turned_zone : (words new : List ℕ) (frames free start order left : ℕ) → IsZone words frames free → IsFlipped words new start (2 ^ order) → start + 2 ^ order ≤ frames
    → left ≡ count_by not (frames_of frames new) → IsZone new frames left
turned_zone words new frames free start order left zone flipped within counted =
    record {
      few = zone.few;
      words_few = (let l = flipped.same_length in let f = zone.words_few in omega arith);
      enough = (let l = flipped.same_length in let e = zone.enough in omega arith);
      beyond = λ i past. flipped.outside i (inr (omega arith)) ∙ zone.beyond i past;
      counted = counted;
    }

pub record Taken (words new : List ℕ) (frames free order start : ℕ) : Type 0 where
  pub after : frames_of frames new ≡ marked true start order (frames_of frames words)
  pub enough : 2 ^ order ≤ free
  pub zone : IsZone new frames (free - 2 ^ order)

pub taken : (words new : List ℕ) (frames free order start : ℕ) → IsZone words frames free → IsRun words order start → IsFlipped words new start (2 ^ order) → Taken words new frames free order start
taken words new frames free order start zone run flipped =
    let s = start_of_run words frames free order start zone run in
    let t = turned words new frames start order 0 true false s.free flipped
    (λ i low high. let turn = flipped.inside i low high in let one = run.ones i low high in omega arith) refl in
    let count = count_taken start order (frames_of frames words) s.free in
    let now = ap (count_by not) t.after in
    let was = zone.counted in
    record {
      after = t.after;
      enough = omega arith;
      zone = turned_zone words new frames free start order (free - 2 ^ order) zone flipped t.within (omega arith);
    }

pub record Given (words new : List ℕ) (frames free order start : ℕ) : Type 0 where
  pub after : frames_of frames new ≡ marked false start order (frames_of frames words)
  pub zone : IsZone new frames (free + 2 ^ order)

pub given : (words new : List ℕ) (frames free order start : ℕ) → IsZone words frames free → AllAre true (frames_of frames words) start order → IsFlipped words new start (2 ^ order) → Given words new frames free order start
given words new frames free order start zone all flipped =
    let t = turned words new frames start order 1 false true all flipped
    (λ i low high. let turn = flipped.inside i low high in let none = taken_bit words frames start order i all low high in omega arith) refl in
    let count = count_given start order (frames_of frames words) all in
    let now = ap (count_by not) t.after in
    let was = zone.counted in
    record {
      after = t.after;
      zone = turned_zone words new frames free start order (free + 2 ^ order) zone flipped t.within (omega arith);
    }

-- where the runs lie
pub run_within : (words : List ℕ) (order start : ℕ) → IsRun words order start → start + 2 ^ order ≤ 64 * length words
run_within words order start run =
    let some = pow_pos order in
    let last = bit_of_within words (start + 2 ^ order - 1) (run.ones (start + 2 ^ order - 1) (omega arith) (omega arith)) in
    omega arith

pub given_within : (words : List ℕ) (frames free order start : ℕ) → IsZone words frames free → AllAre true (frames_of frames words) start order → start + 2 ^ order ≤ 64 * length words
given_within words frames free order start zone all =
    let e = zone.enough in
    omega (arith, all_within true (frames_of frames words) start order all, frames_length frames words)

-- ---- a new zone

pub record Fresh (words : List ℕ) (frames : ℕ) : Type 0 where
  pub after : frames_of frames words ≡ replicate frames false
  pub zone : IsZone words frames frames

pub fresh : (frames last : ℕ) → frames ≤ 1024 → last ≡ 2 ^ (frames % 64) - 1 → Fresh (replicate (frames / 64) 18446744073709551615 ++ last ∷ []) frames
fresh frames last few is = record { after = after; zone = zone }
  where
    words : List ℕ
    words = replicate (frames / 64) 18446744073709551615 ++ last ∷ []

    len : length (replicate (frames / 64) 18446744073709551615 ++ last ∷ []) ≡ frames / 64 + 1
    len = length-append (replicate (frames / 64) 18446744073709551615) (last ∷ []) ∙ ap (λ n. n + 1) (length-replicate (frames / 64) 18446744073709551615)

    low : (i : ℕ) → i / 64 < frames / 64 → get_or (replicate (frames / 64) 18446744073709551615 ++ last ∷ []) (i / 64) 0 ≡ 18446744073709551615
    low i l =
        get_or_append_left (replicate (frames / 64) 18446744073709551615) (last ∷ []) 0 (i / 64) (omega (arith, length-replicate {A = ℕ} (frames / 64) 18446744073709551615))
        ∙ get_or-replicate (frames / 64) (i / 64) 18446744073709551615 0 l

    high : (i : ℕ) → i / 64 ≡ frames / 64 → get_or (replicate (frames / 64) 18446744073709551615 ++ last ∷ []) (i / 64) 0 ≡ last
    high i e =
        get_or-append_right (replicate (frames / 64) 18446744073709551615) (last ∷ []) (frames / 64) (i / 64) 0 (length-replicate (frames / 64) 18446744073709551615) (omega arith)
        ∙ (let none : i / 64 - frames / 64 ≡ 0 = omega arith in ap (λ j. get_or (last ∷ []) j 0) none)

    set : (i : ℕ) → i < frames → bit_of (replicate (frames / 64) 18446744073709551615 ++ last ∷ []) i ≡ 1
    set i below = elim (cases_lt (i / 64) (frames / 64)) [
      | inl l ↦ bit_of_in _ i (i / 64) refl ∙ ap (λ w. bit_at w (i % 64)) (low i l) ∙ bit_at_ones 64 (i % 64) (omega arith)
      | inr h ↦ bit_of_in _ i (i / 64) refl ∙ ap (λ w. bit_at w (i % 64)) (high i (omega arith) ∙ is) ∙ bit_at_ones (frames % 64) (i % 64) (omega arith)
    ]

    unset : (i : ℕ) → frames ≤ i → bit_of (replicate (frames / 64) 18446744073709551615 ++ last ∷ []) i ≡ 0
    unset i past = elim (cases_lt (i / 64) (frames / 64 + 1)) [
      | inl l ↦ bit_of_in _ i (i / 64) refl ∙ ap (λ w. bit_at w (i % 64)) (high i (omega arith) ∙ is) ∙ bit_at_ones_above (frames % 64) (i % 64) (omega arith)
      | inr h ↦ bit_of_past _ i (omega (arith, len))
    ]

    after : frames_of frames (replicate (frames / 64) 18446744073709551615 ++ last ∷ []) ≡ replicate frames false
    after = same_lists _ (replicate frames false) (frames_length frames _ ∙ sym (length-replicate frames false))
        (λ i d below.
        let l : i < frames = omega (arith, frames_length frames (replicate (frames / 64) 18446744073709551615 ++ last ∷ [])) in
        frame_at frames _ i d l ∙ ap (λ n. n == 0) (set i l) ∙ sym (get_or-replicate frames i false d l))

    zone : IsZone (replicate (frames / 64) 18446744073709551615 ++ last ∷ []) frames frames
    zone = record {
      few = few;
      words_few = omega (arith, len);
      enough = omega (arith, len);
      beyond = unset;
      counted = sym (ap (count_by not) after ∙ sum_by-replicate (λ x. cond {A = ℕ} (not x) 1 0) frames false ∙ omega arith);
    }

-- no more frames are free than there are
pub free_few : (words : List ℕ) (frames free : ℕ) → IsZone words frames free → free ≤ 1024
free_few words frames free zone =
    let counted = zone.counted in
    let few = zone.few in
    omega (arith, count_by-le-length not (frames_of frames words), frames_length frames words)

-- a slice that is written whole
pub written : (n : ℕ) (new items : List ℕ) → length new ≡ n → take n (new ++ drop (length new) items) ≡ new
written n new items len = take_at new (drop (length new) items) n len

-- ---- one frame

pub frame_taken : (words : List ℕ) (frames i : ℕ) (set : Bool) → i < frames → IsTrue set ↔ (bit_of words i ≡ 1) → IsTrue (not set) ↔ (slice_get (frames_of frames words) i ≡ Some true)
frame_taken words frames i set below told = (
  (λ unset.
      slice_get-get_or (frames_of frames words) i true (omega (arith, frames_length frames words))
      ∙ ap (λ b. Some b) (frame_at frames words i true below ∙ eq-eqb (bit_of words i) 0
      (elim (cases_eq (bit_of words i) 1) [ inl e ↦ absurd (both_ways set (not-true set unset) (told.1 e)) | inr ne ↦ omega (arith, bit_of_lt words i) ]))),
  (λ taken.
      let none = eqb-true (bit_of words i) 0 (sym (frame_at frames words i true below) ∙ get_or_from_slice_get (frames_of frames words) i true true taken) in
      elim (cases_Bool set) [ inl e ↦ absurd (let one = told.0 e in omega arith) | inr e ↦ ap not e ]),
)

pub no_frame : (words : List ℕ) (frames i : ℕ) → frames ≤ i → ¬ (slice_get (frames_of frames words) i ≡ Some true)
no_frame words frames i past taken = omega (arith, slice_get_within (frames_of frames words) i true taken, frames_length frames words)
