use Rattle.trace_play.proofs.CellsFound.{in_their_cells}
use Rattle.trace_play.proofs.trace_laws.live_references_are_in_their_cells.Goals as goal

pub returns : goal.returns
returns c = in_their_cells
