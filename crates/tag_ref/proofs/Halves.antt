-- A reference that two cells share: what is in hand while each takes its half.
use Rattle.std.proofs.Common.{◌≡◌, ℕ, ◌+◌, ◌-◌, ◌<◌, false, IsTrue, Some, None, refl, ap, sym, ◌∙◌, subst, arith, inr}
use Rattle.std.proofs.lemmas.Grind.{common_steps}
use Rattle.tag_model.specs.declared.limits.TheConstants.{SIZE_END}
use Rattle.tag_model.specs.declared.state.CpuPart.{CpuPart}
use Rattle.tag_model.specs.declared.state.Hand.{Hand}
use Rattle.tag_model.specs.declared.state.Held.{Held}
use Rattle.tag_model.specs.declared.state.Held.TheVariants as held
use Rattle.tag_model.specs.declared.state.Kind.{Kind}
use Rattle.tag_model.specs.declared.state.Kind.TheVariants.{Bytes, Calls}
use Rattle.tag_model.specs.declared.state.Tag.{Tag}
use Rattle.tag_model.specs.Reference.{held_fits, hand_fits, held_counts_of, hand_counts_of}
use Rattle.tag_model.specs.StepRules.{WritesPlace}
use Rattle.tag_rule.specs.Steps.{with_hand, hand_after}
use Rattle.tag_ref.proofs.RefSteps.{one_call, may_give, same_itself}

-- a hand with two calls
abbrev pub two_calls : Tag → ℕ → Hand
two_calls tag bytes = record { tag = tag; bytes = bytes; calls = 2; opening = false }

-- a cell that takes one of two halves
pub parted_hand : (tag : Tag) (half : ℕ) → hand_after (Some (two_calls tag (half + half))) held.None (held.Counted tag half) ≡ Some (one_call tag half false)
parted_hand tag half = rw (same_itself tag) (let n : half + half + 0 - half ≡ half = omega arith in ap (λ bytes. Some (one_call tag bytes false)) n)

half_fits : (tag : Tag) (half : ℕ) → 0 < half → half + half < SIZE_END → IsTrue (held_fits (held.Counted tag half))
half_fits tag half some below = grind (arith, common_steps)

one_half_fits : (tag : Tag) (half : ℕ) → half + half < SIZE_END → IsTrue (hand_fits (Some (one_call tag half false)))
one_half_fits tag half below = grind (arith, common_steps)

two_halves : (kind : Kind) (named tag : Tag) (half : ℕ) → hand_counts_of kind named (Some (two_calls tag (half + half))) ≡ hand_counts_of kind named (Some (one_call tag half false)) + held_counts_of kind named (held.Counted tag half)
two_halves Bytes named tag half = grind (arith, common_steps)
two_halves Calls named tag half = grind (arith, common_steps)

pub may_part : (c : CpuPart) (was : Held) (tag : Tag) (half : ℕ) → was ≡ held.None → c.hand ≡ Some (two_calls tag (half + half)) → 0 < half → half + half < SIZE_END
    → WritesPlace c (with_hand (hand_after c.hand was (held.Counted tag half)) c) was (held.Counted tag half)
may_part c was tag half none is some below =
    let after : hand_after c.hand held.None (held.Counted tag half) ≡ Some (one_call tag half false) = ap (λ hand. hand_after hand held.None (held.Counted tag half)) is ∙ parted_hand tag half in
    let here : WritesPlace c (with_hand (hand_after c.hand held.None (held.Counted tag half)) c) held.None (held.Counted tag half) =
    subst (λ hand. WritesPlace c (with_hand hand c) held.None (held.Counted tag half)) (sym after) (record {
      place_fits = half_fits tag half some below;
      hand_fits = one_half_fits tag half below;
      stays = λ kind named. let all : hand_counts_of kind named c.hand ≡ hand_counts_of kind named (Some (two_calls tag (half + half))) = ap (hand_counts_of kind named) is in omega (arith, all, two_halves kind named tag half);
      settled = inr refl;
      after = refl;
    }) in
    subst (λ h. WritesPlace c (with_hand (hand_after c.hand h (held.Counted tag half)) c) h (held.Counted tag half)) (sym none) here

-- the other cell takes the other half
pub may_end : (c : CpuPart) (was : Held) (tag : Tag) (half : ℕ) → was ≡ held.None → c.hand ≡ Some (one_call tag half false) → 0 < half → half < SIZE_END
    → WritesPlace c (with_hand (hand_after c.hand was (held.Counted tag half)) c) was (held.Counted tag half)
may_end c was tag half none is some below =
    subst (λ h. WritesPlace c (with_hand (hand_after c.hand h (held.Counted tag half)) c) h (held.Counted tag half)) (sym none) (may_give c tag half false is some below)
