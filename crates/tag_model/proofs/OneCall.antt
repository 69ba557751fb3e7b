-- A step on a call word counts one call of its hand.
use Rattle.std.proofs.Common.{◌≡◌, ◌+◌, ◌-◌, ◌<◌, ◌==◌, refl, ap, ◌∙◌, arith, Bool, true, false, cond, Some, None, eq-eqb, eqb-true}
use Rattle.tag_model.specs.declared.shape.Shape.{Shape}
use Rattle.tag_model.specs.declared.state.CpuPart.{CpuPart}
use Rattle.tag_model.specs.declared.state.Hand.{Hand}
use Rattle.tag_model.specs.declared.state.Tag.{Tag}
use Rattle.tag_model.specs.Plainly.{calls_in_hand}
use Rattle.tag_model.specs.StepRules.{AddsCall, BeginsAllocation, SubtractsCall, without_call}

calls_here : (h : Hand) → calls_in_hand h.tag.number (Some h) ≡ h.calls
calls_here h = rw (eq-eqb h.tag.number h.tag.number refl) refl

pub begins_one : (k : Shape) (tag : Tag) (old new : CpuPart) → BeginsAllocation k tag old new → calls_in_hand tag.number new.hand ≡ calls_in_hand tag.number old.hand + 1
begins_one k tag old new row =
    let was : calls_in_hand tag.number old.hand ≡ 0 = ap (calls_in_hand tag.number) row.free in
    let is : calls_in_hand tag.number new.hand ≡ 1 = ap (λ (c : CpuPart). calls_in_hand tag.number c.hand) row.after ∙ calls_here (record { tag = tag; bytes = 0; calls = 1; opening = true }) in
    omega arith

pub adds_one : (hand : Hand) (old new : CpuPart) → AddsCall hand old new → calls_in_hand hand.tag.number new.hand ≡ calls_in_hand hand.tag.number old.hand + 1
adds_one hand old new row =
    let was : calls_in_hand hand.tag.number old.hand ≡ hand.calls = ap (calls_in_hand hand.tag.number) row.held ∙ calls_here hand in
    let is : calls_in_hand hand.tag.number new.hand ≡ hand.calls + 1 = ap (λ (c : CpuPart). calls_in_hand hand.tag.number c.hand) row.after ∙ calls_here (record hand { calls = hand.calls + 1 }) in
    omega arith

one_less : (hand : Hand) → 0 < hand.calls → calls_in_hand hand.tag.number (without_call hand) + 1 ≡ hand.calls
one_less hand some = go (hand.calls == 1) refl
  where
    go : (b : Bool) → (hand.calls == 1) ≡ b → calls_in_hand hand.tag.number (cond b None (Some (record hand { calls = hand.calls - 1 }))) + 1 ≡ hand.calls
    go true is = omega (arith, eqb-true hand.calls 1 is)
    go false is = omega (arith, calls_here (record hand { calls = hand.calls - 1 }))

pub subtracts_one : (hand : Hand) (old new : CpuPart) → SubtractsCall hand old new → calls_in_hand hand.tag.number new.hand + 1 ≡ calls_in_hand hand.tag.number old.hand
subtracts_one hand old new row =
    let was : calls_in_hand hand.tag.number old.hand ≡ hand.calls = ap (calls_in_hand hand.tag.number) row.held ∙ calls_here hand in
    let is : calls_in_hand hand.tag.number new.hand ≡ calls_in_hand hand.tag.number (without_call hand) = ap (λ (c : CpuPart). calls_in_hand hand.tag.number c.hand) row.after in
    omega (arith, one_less hand row.some)
