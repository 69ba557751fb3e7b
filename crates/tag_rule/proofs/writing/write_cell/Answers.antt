use Rattle.tag_rule.proofs.PlaceWords.{held_shown, step_shown, cpu_after, cell_after}
use Rattle.tag_rule.proofs.writing.write_cell.Goals as goal

pub write_first-requires-clause-held : goal.write_first-requires-clause-held
write_first-requires-clause-held c = held_shown _ _ _ _ _ _ _ c.deref.ensures c.cpu.invariant c.cell.invariant c.cpu.view_is c.cell.view_is c.requires.table c.requires.step c.hand_after-hand.ensures

pub write_first-requires-clause-step : goal.write_first-requires-clause-step
write_first-requires-clause-step c = step_shown _ _ _ _ _ _ _ c.deref.ensures c.cpu.invariant c.cell.invariant c.cpu.view_is c.cell.view_is c.requires.table c.requires.step c.hand_after-hand.ensures

pub invariant_of-cpu : goal.invariant_of-cpu
invariant_of-cpu c = cpu_after _ _ _ _ _ _ _ c.deref.ensures c.cpu.invariant c.cell.invariant c.cpu.view_is c.cell.view_is c.requires.table c.requires.step c.hand_after-hand.ensures _ c.write_first.ensures.cpu.0 c.write_first.ensures.cpu.1

pub invariant_of-cell : goal.invariant_of-cell
invariant_of-cell c = cell_after _ _ _ _ _ _ _ c.deref.ensures c.cpu.invariant c.cell.invariant c.cpu.view_is c.cell.view_is c.requires.table c.requires.step c.hand_after-hand.ensures _ c.write_first.ensures.cells.1
