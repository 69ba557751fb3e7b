use Rattle.tag_ref.proofs.RefSteps.{marks, meets_mark}
use Rattle.tag_ref.proofs.refs.mark_empty.Goals as goal

pub returns-clause-machine : goal.returns-clause-machine
returns-clause-machine c =
    meets_mark c.args.cpu.now c.write_cell.new.cpu c.args.cell.now c.write_cell.new.cell c.write_cell.ensures.cell (marks c.args.cpu.now c.write_cell.new.cpu c.args.cell.now.held c.requires.none c.write_cell.ensures.cpu)
