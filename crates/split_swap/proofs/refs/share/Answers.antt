use Rattle.std.proofs.Common.{◌≡◌, ◌+◌, false, Some, ap, arith}
use Rattle.tag_model.specs.declared.state.Kind.TheVariants.{Calls}
use Rattle.tag_model.specs.StepRules.{raised}
use Rattle.tag_rule.specs.Shown.{CpuShown}
use Rattle.tag_ref.proofs.RefSteps.{one_call, made, shown, takes}
use Rattle.tag_ref.proofs.Halves.{may_end, may_part, two_calls}
use Rattle.split_swap.proofs.Hands.{adds_call, first_half, both_halves}
use Rattle.split_swap.proofs.refs.share.Goals as goal

-- the CPU once the call is added
abbrev with_call : CpuShown → goal.After-write_cell-arg-4-1 → CpuShown
with_call cpu c = shown cpu.board (made cpu.part (raised Calls c.args.tag.number 1 cpu.part.words) (Some (two_calls c.args.tag (c.args.half + c.args.half))))

added : (c : goal.After-write_cell-arg-4-1) → c.add_call.new.cpu ≡ with_call c.args.cpu.now c
added c =
    adds_call c.args.cpu.now c.write_cell.new.cpu c.add_call.new.cpu c.args.tag (c.args.half + c.args.half)
    (takes c.args.cpu.now c.write_cell.new.cpu c.args.first.now.held c.args.tag (c.args.half + c.args.half) c.requires.hand c.requires.two c.write_cell.ensures.cpu)
    c.add_call.ensures.adds c.add_call.ensures.board

pub write_cell-requires-2-clause-step : goal.write_cell-requires-2-clause-step
write_cell-requires-2-clause-step c =
    may_part c.add_call.new.cpu.part c.write_cell.new.cell.held c.args.tag c.args.half (ap (λ cell. cell.held) c.write_cell.ensures.cell)
    (ap (λ (p : CpuShown). p.part.hand) (added c)) c.requires.some.0 c.requires.some.1

halved : (c : goal.After-write_cell-arg-6-1) → c.write_cell-2.new.cpu ≡ shown c.args.cpu.now.board (made c.args.cpu.now.part (raised Calls c.args.tag.number 1 c.args.cpu.now.part.words) (Some (one_call c.args.tag c.args.half false)))
halved c =
    first_half c.args.cpu.now c.add_call.new.cpu c.write_cell-2.new.cpu c.write_cell.new.cell.held c.args.tag c.args.half (ap (λ cell. cell.held) c.write_cell.ensures.cell)
    (adds_call c.args.cpu.now c.write_cell.new.cpu c.add_call.new.cpu c.args.tag (c.args.half + c.args.half)
    (takes c.args.cpu.now c.write_cell.new.cpu c.args.first.now.held c.args.tag (c.args.half + c.args.half) c.requires.hand c.requires.two c.write_cell.ensures.cpu)
    c.add_call.ensures.adds c.add_call.ensures.board)
    c.write_cell-2.ensures.cpu

pub write_cell-requires-3-clause-step : goal.write_cell-requires-3-clause-step
write_cell-requires-3-clause-step c =
    may_end c.write_cell-2.new.cpu.part c.args.second.now.held c.args.tag c.args.half c.requires.none (ap (λ (p : CpuShown). p.part.hand) (halved c)) c.requires.some.0 (omega (arith, c.requires.some.1))

pub returns-clause-cpu : goal.returns-clause-cpu
returns-clause-cpu c =
    both_halves c.args.cpu.now c.write_cell-2.new.cpu c.write_cell-3.new.cpu c.args.second.now.held c.args.first.now.held c.args.tag c.args.half c.requires.hand c.requires.none c.requires.two
    (first_half c.args.cpu.now c.add_call.new.cpu c.write_cell-2.new.cpu c.write_cell.new.cell.held c.args.tag c.args.half (ap (λ cell. cell.held) c.write_cell.ensures.cell)
    (adds_call c.args.cpu.now c.write_cell.new.cpu c.add_call.new.cpu c.args.tag (c.args.half + c.args.half)
    (takes c.args.cpu.now c.write_cell.new.cpu c.args.first.now.held c.args.tag (c.args.half + c.args.half) c.requires.hand c.requires.two c.write_cell.ensures.cpu)
    c.add_call.ensures.adds c.add_call.ensures.board)
    c.write_cell-2.ensures.cpu)
    c.write_cell-3.ensures.cpu
