use Rattle.std.proofs.Common.{◌≡◌, refl, sym, ap, ◌∙◌, subst}
use Rattle.tag_model.specs.declared.state.Held.TheVariants as held
use Rattle.tag_model.specs.StepRules.{WritesPlace}
use Rattle.tag_rule.specs.Shown.{CpuShown}
use Rattle.tag_rule.specs.Steps.{with_hand, hand_after}
use Rattle.tag_ref.proofs.RefSteps.{wrote}
use Rattle.split_swap.proofs.Hands.{hold, in_hand, may_exchange, exchanged, none_held}
use Rattle.split_swap.proofs.refs.swap_refs.Goals as goal

-- the first write: what the first cell held is in hand
taken : (c : goal.After-write_cell-arg-4-1) → c.write_cell.new.cpu ≡ hold c.args.cpu.now (in_hand c.args.one.now.held)
taken c = exchanged c.args.cpu.now c.args.cpu.now c.write_cell.new.cpu held.None c.args.one.now.held (none_held c.args.cpu.now c.requires.hand) c.write_cell.ensures.cpu

pub write_cell-requires-2-clause-step : goal.write_cell-requires-2-clause-step
write_cell-requires-2-clause-step c =
    subst (λ h. WritesPlace c.write_cell.new.cpu.part (with_hand (hand_after c.write_cell.new.cpu.part.hand c.args.two.now.held h) c.write_cell.new.cpu.part) c.args.two.now.held h) (sym c.held-held.ensures)
    (may_exchange c.write_cell.new.cpu.part c.args.one.now.held c.args.two.now.held (ap (λ (p : CpuShown). p.part.hand) (taken c)) c.tell.ensures.holds.held c.tell-2.ensures.holds.held)

-- the second: what the second cell held is
exchanged_now : (c : goal.After-write_cell-arg-6-1) → c.write_cell-2.new.cpu ≡ hold c.args.cpu.now (in_hand c.args.two.now.held)
exchanged_now c =
    exchanged c.args.cpu.now c.write_cell.new.cpu c.write_cell-2.new.cpu c.args.one.now.held c.args.two.now.held
    (exchanged c.args.cpu.now c.args.cpu.now c.write_cell.new.cpu held.None c.args.one.now.held (none_held c.args.cpu.now c.requires.hand) c.write_cell.ensures.cpu)
    (c.write_cell-2.ensures.cpu ∙ ap (λ h. wrote c.write_cell.new.cpu c.args.two.now.held h) c.held-held.ensures)

pub write_cell-requires-3-clause-step : goal.write_cell-requires-3-clause-step
write_cell-requires-3-clause-step c =
    let none : c.write_cell.new.cell.held ≡ held.None = ap (λ cell. cell.held) c.write_cell.ensures.cell in
    subst (λ h. WritesPlace c.write_cell-2.new.cpu.part (with_hand (hand_after c.write_cell-2.new.cpu.part.hand h c.held-other.result) c.write_cell-2.new.cpu.part) h c.held-other.result) (sym none)
    (subst (λ h. WritesPlace c.write_cell-2.new.cpu.part (with_hand (hand_after c.write_cell-2.new.cpu.part.hand held.None h) c.write_cell-2.new.cpu.part) held.None h) (sym c.held-other.ensures)
    (may_exchange c.write_cell-2.new.cpu.part c.args.two.now.held held.None (ap (λ (p : CpuShown). p.part.hand) (exchanged_now c)) c.tell-2.ensures.holds.held refl))

pub returns-clause-cpu : goal.returns-clause-cpu
returns-clause-cpu c =
    let none : c.write_cell.new.cell.held ≡ held.None = ap (λ cell. cell.held) c.write_cell.ensures.cell in
    exchanged c.args.cpu.now c.write_cell-2.new.cpu c.write_cell-3.new.cpu c.args.two.now.held held.None
    (exchanged c.args.cpu.now c.write_cell.new.cpu c.write_cell-2.new.cpu c.args.one.now.held c.args.two.now.held
    (exchanged c.args.cpu.now c.args.cpu.now c.write_cell.new.cpu held.None c.args.one.now.held (none_held c.args.cpu.now c.requires.hand) c.write_cell.ensures.cpu)
    (c.write_cell-2.ensures.cpu ∙ ap (λ h. wrote c.write_cell.new.cpu c.args.two.now.held h) c.held-held.ensures))
    (c.write_cell-3.ensures.cpu ∙ ap (λ h. wrote c.write_cell-2.new.cpu h c.held-other.result) none ∙ ap (λ h. wrote c.write_cell-2.new.cpu held.None h) c.held-other.ensures)
    ∙ sym (none_held c.args.cpu.now c.requires.hand)
