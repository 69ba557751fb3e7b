use Rattle.trace_play.proofs.OwnWords.{ops_count}
use Rattle.trace_play.proofs.round_laws.each_op_counts_one.Goals as goal

pub returns-clause-failed : goal.returns-clause-failed
returns-clause-failed c = λ entries ops w. (ops_count entries ops w).failed

pub returns-clause-uncounted : goal.returns-clause-uncounted
returns-clause-uncounted c = λ entries ops w. (ops_count entries ops w).uncounted
