use Rattle.tag_ref.proofs.RefSteps.{meets_open, opens, write_opened}
use Rattle.tag_ref.proofs.refs.open_ref.Goals as goal

pub write_cell-requires-clause-step : goal.write_cell-requires-clause-step
write_cell-requires-clause-step c =
    write_opened _ c.args.tag c.args.size c.args.cpu.now.part c.add_call.new.cpu.part c.add_bytes.new.cpu.part c.args.cell.now.held c.requires.none c.requires.size
    (c.add_call.ensures.begins c.requires.no_hand) c.add_bytes.ensures.added

pub returns-clause-cpu : goal.returns-clause-cpu
returns-clause-cpu c =
    opens c.args.cpu.now c.add_call.new.cpu c.add_bytes.new.cpu c.write_cell.new.cpu c.args.cell.now.held c.args.tag c.args.size c.requires.no_hand c.requires.none
    (c.add_call.ensures.begins c.requires.no_hand) c.add_call.ensures.board c.add_bytes.ensures.added c.add_bytes.ensures.board c.write_cell.ensures.cpu

pub returns-clause-machine : goal.returns-clause-machine
returns-clause-machine c = meets_open c.args.cpu.now c.write_cell.new.cpu c.args.cell.now c.write_cell.new.cell c.args.tag c.args.size c.write_cell.ensures.cell (returns-clause-cpu c)
