-- A reference that is shared out to two cells, for the tests: what is in hand between the four steps.
use Rattle.std.proofs.Common.{◌≡◌, ℕ, ◌+◌, ◌/◌, ◌%◌, ◌<◌, false, IsTrue, Some, None, ap, ◌∙◌, subst, arith}
use Rattle.std.proofs.lemmas.Grind.{common_steps}
use Rattle.tag_model.specs.declared.limits.TheConstants.{SIZE_END}
use Rattle.tag_model.specs.declared.state.CpuPart.{CpuPart}
use Rattle.tag_model.specs.declared.state.Hand.{Hand}
use Rattle.tag_model.specs.declared.state.Held.{Held}
use Rattle.tag_model.specs.declared.state.Held.TheVariants as held
use Rattle.tag_model.specs.declared.state.Tag.{Tag}
use Rattle.tag_model.specs.Reference.{held_fits}
use Rattle.tag_model.specs.StepRules.{AddsCall}
use Rattle.tag_rule.specs.Shown.{CpuShown}
use Rattle.tag_rule.specs.Steps.{with_hand, hand_after}
use Rattle.tag_ref.proofs.Halves.{parted_hand, two_calls}
use Rattle.tag_ref.proofs.RefSteps.{one_call, taken, given}

-- the cell gives up its reference
pub taken_hand : (cpu after : CpuShown) (was : Held) (tag : Tag) (half : ℕ) → cpu.part.hand ≡ None → was ≡ held.Counted tag (half + half)
    → after ≡ record cpu { part = with_hand (hand_after cpu.part.hand was held.None) cpu.part } → after.part.hand ≡ Some (one_call tag (half + half) false)
taken_hand cpu after was tag half free is write =
    ap (λ (c : CpuShown). c.part.hand) write ∙ ap (λ hand. hand_after hand was held.None) free ∙ ap (λ h. hand_after None h held.None) is ∙ taken tag (half + half)

-- a call is added
pub added_hand : (before after : CpuShown) (tag : Tag) (bytes : ℕ) → before.part.hand ≡ Some (one_call tag bytes false) → ((hand : Hand) → before.part.hand ≡ Some hand → AddsCall hand before.part after.part)
    → after.part.hand ≡ Some (two_calls tag bytes)
added_hand before after tag bytes is adds = ap (λ (c : CpuPart). c.hand) (adds (one_call tag bytes false) is).after

-- a cell takes one of two halves
pub first_hand : (cpu after : CpuShown) (was : Held) (tag : Tag) (half : ℕ) → was ≡ held.None → cpu.part.hand ≡ Some (two_calls tag (half + half))
    → after ≡ record cpu { part = with_hand (hand_after cpu.part.hand was (held.Counted tag half)) cpu.part } → after.part.hand ≡ Some (one_call tag half false)
first_hand cpu after was tag half none is write =
    ap (λ (c : CpuShown). c.part.hand) write ∙ ap (λ hand. hand_after hand was (held.Counted tag half)) is ∙ ap (λ h. hand_after (Some (two_calls tag (half + half))) h (held.Counted tag half)) none ∙ parted_hand tag half

-- the other cell takes the other half
pub ended_hand : (cpu after : CpuShown) (was : Held) (tag : Tag) (half : ℕ) → was ≡ held.None → cpu.part.hand ≡ Some (one_call tag half false)
    → after ≡ record cpu { part = with_hand (hand_after cpu.part.hand was (held.Counted tag half)) cpu.part } → after.part.hand ≡ None
ended_hand cpu after was tag half none is write =
    ap (λ (c : CpuShown). c.part.hand) write ∙ ap (λ hand. hand_after hand was (held.Counted tag half)) is ∙ ap (λ h. hand_after (Some (one_call tag half false)) h (held.Counted tag half)) none ∙ given tag half false

-- ---- an even size

pub halves : (h : Held) (tag : Tag) (size : ℕ) → h ≡ held.Counted tag size → size % 2 ≡ 0 → h ≡ held.Counted tag (size / 2 + size / 2)
halves h tag size is even = is ∙ ap (held.Counted tag) (let twice : size ≡ size / 2 + size / 2 = omega (arith, even) in twice)

pub half_bounds : (h : Held) (tag : Tag) (size : ℕ) → h ≡ held.Counted tag size → size % 2 ≡ 0 → IsTrue (held_fits h) → (0 < size / 2) × (size / 2 + size / 2 < SIZE_END)
half_bounds h tag size is even fit = bounds (subst (λ x. IsTrue (held_fits x)) is fit)
  where
    some : IsTrue (held_fits (held.Counted tag size)) → 0 < size
    some f = grind (arith, common_steps)

    small : IsTrue (held_fits (held.Counted tag size)) → size < SIZE_END
    small f = grind (arith, common_steps)

    bounds : IsTrue (held_fits (held.Counted tag size)) → (0 < size / 2) × (size / 2 + size / 2 < SIZE_END)
    bounds f = (omega (arith, some f, even), omega (arith, small f, even))
