use Rattle.trace_play.proofs.SideBySide.{are_side_by_side, each_has, unnamed}
use Rattle.trace_play.proofs.round_laws.cpus_are_side_by_side.Goals as goal

pub returns-clause-done : goal.returns-clause-done
returns-clause-done c = are_side_by_side

pub returns-clause-of_each : goal.returns-clause-of_each
returns-clause-of_each c = each_has

pub returns-clause-of_none : goal.returns-clause-of_none
returns-clause-of_none c = unnamed
