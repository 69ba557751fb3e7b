use Rattle.std.proofs.Common.{◌+◌, ap, ◌∙◌, arith}
use Rattle.tag_rule.specs.Shown.{CellShown, CpuShown}
use Rattle.tag_ref.proofs.Halves.{may_end, may_part}
use Rattle.reclaim.proofs.Halves.{added_hand, ended_hand, first_hand, taken_hand}
use Rattle.reclaim.proofs.tests.splits.halve.Goals as goal

pub write_cell-requires-2-clause-step : goal.write_cell-requires-2-clause-step
write_cell-requires-2-clause-step c =
    let taken = taken_hand c.args.cpu.now c.write_cell.new.cpu c.args.first.now.held c.args.tag c.args.half c.requires.rests c.requires.whole c.write_cell.ensures.cpu in
    let added = added_hand c.write_cell.new.cpu c.add_call.new.cpu c.args.tag (c.args.half + c.args.half) taken c.add_call.ensures.adds in
    may_part c.add_call.new.cpu.part c.write_cell.new.cell.held c.args.tag c.args.half (ap (λ (cell : CellShown). cell.held) c.write_cell.ensures.cell) added c.requires.some.0 c.requires.some.1

pub write_cell-requires-3-clause-step : goal.write_cell-requires-3-clause-step
write_cell-requires-3-clause-step c =
    let taken = taken_hand c.args.cpu.now c.write_cell.new.cpu c.args.first.now.held c.args.tag c.args.half c.requires.rests c.requires.whole c.write_cell.ensures.cpu in
    let added = added_hand c.write_cell.new.cpu c.add_call.new.cpu c.args.tag (c.args.half + c.args.half) taken c.add_call.ensures.adds in
    let parted = first_hand c.add_call.new.cpu c.write_cell-2.new.cpu c.write_cell.new.cell.held c.args.tag c.args.half (ap (λ (cell : CellShown). cell.held) c.write_cell.ensures.cell) added c.write_cell-2.ensures.cpu in
    may_end c.write_cell-2.new.cpu.part c.args.second.now.held c.args.tag c.args.half c.requires.none parted c.requires.some.0 (omega (arith, c.requires.some.1))

pub returns-clause-cpu : goal.returns-clause-cpu
returns-clause-cpu c =
    let taken = taken_hand c.args.cpu.now c.write_cell.new.cpu c.args.first.now.held c.args.tag c.args.half c.requires.rests c.requires.whole c.write_cell.ensures.cpu in
    let added = added_hand c.write_cell.new.cpu c.add_call.new.cpu c.args.tag (c.args.half + c.args.half) taken c.add_call.ensures.adds in
    let parted = first_hand c.add_call.new.cpu c.write_cell-2.new.cpu c.write_cell.new.cell.held c.args.tag c.args.half (ap (λ (cell : CellShown). cell.held) c.write_cell.ensures.cell) added c.write_cell-2.ensures.cpu in (
      ap (λ (x : CpuShown). x.board) c.write_cell-3.ensures.cpu ∙ ap (λ (x : CpuShown). x.board) c.write_cell-2.ensures.cpu ∙ c.add_call.ensures.board ∙ ap (λ (x : CpuShown). x.board) c.write_cell.ensures.cpu,
      ended_hand c.write_cell-2.new.cpu c.write_cell-3.new.cpu c.args.second.now.held c.args.tag c.args.half c.requires.none parted c.write_cell-3.ensures.cpu,
    )
