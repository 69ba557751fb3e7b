use Rattle.homing.proofs.Turns.{Turned}
use Rattle.homing.proofs.home.bring_home.Given as goal

abbrev pub invariant-loop-index : goal.invariant-loop-index
invariant-loop-index l = Turned l.initial.workers l.initial.cpus l.index l.workers l.cpus
