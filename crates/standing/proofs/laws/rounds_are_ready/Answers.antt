use Rattle.standing.proofs.ReadyLanes.{are_ready}
use Rattle.standing.proofs.laws.rounds_are_ready.Goals as goal

pub returns : goal.returns
returns c = λ trace top ops r b cpus workers room s w inside. are_ready trace top ops r b cpus workers room s w inside
