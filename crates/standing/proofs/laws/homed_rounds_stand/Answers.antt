use Rattle.standing.proofs.HomedRound.{home, ready}
use Rattle.standing.proofs.laws.homed_rounds_stand.Goals as goal

pub returns-clause-ready : goal.returns-clause-ready
returns-clause-ready c = λ trace top ops r b cpus workers room s w. ready trace top ops r b cpus workers room s w

pub returns-clause-home : goal.returns-clause-home
returns-clause-home c = λ trace top ops r b cpus workers left room s w is. home trace top ops r b cpus workers room s w left is
