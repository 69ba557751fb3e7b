use Rattle.trace_play.specs.Play.{played_so_far}
use Rattle.trace_play.proofs.MachineSound.{machines_are_sound}
use Rattle.trace_play.proofs.CellsApart.{no_two}
use Rattle.trace_play.proofs.trace_laws.no_cell_holds_two.Goals as goal

pub returns : goal.returns
returns c = λ trace top formed passes front back stands slot. no_two (played_so_far trace top front).played.machine (machines_are_sound trace top formed passes front back stands) slot
