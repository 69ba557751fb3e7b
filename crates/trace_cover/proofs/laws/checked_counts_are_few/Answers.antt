use Rattle.std.proofs.Common.{arith}
use Rattle.trace_cover.proofs.Counts.{front_counts}
use Rattle.trace_play.proofs.Numbers.{few_ops}
use Rattle.trace_cover.proofs.laws.checked_counts_are_few.Goals as goal

pub returns-clause-failed : goal.returns-clause-failed
returns-clause-failed c = λ trace top formed front back stands. (front_counts trace top front back stands formed.lines).0

pub returns-clause-uncounted : goal.returns-clause-uncounted
returns-clause-uncounted c = λ trace top formed front back stands. (front_counts trace top front back stands formed.lines).1

pub returns-clause-ops : goal.returns-clause-ops
returns-clause-ops c = λ trace formed. let few = few_ops trace.body formed.lines in omega (arith, few)
