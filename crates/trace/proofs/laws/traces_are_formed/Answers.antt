use Rattle.trace.proofs.TraceForm.{trace_is_formed}
use Rattle.trace.proofs.laws.traces_are_formed.Goals as goal

pub returns : goal.returns
returns c = λ text trace e. trace_is_formed text trace e
