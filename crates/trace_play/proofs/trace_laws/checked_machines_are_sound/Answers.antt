use Rattle.trace_play.proofs.MachineSound.{machines_are_sound}
use Rattle.trace_play.proofs.trace_laws.checked_machines_are_sound.Goals as goal

pub returns : goal.returns
returns c = machines_are_sound
