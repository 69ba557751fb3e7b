use Rattle.trace.proofs.TraceForm.{read_is_formed}
use Rattle.trace.proofs.trace_reading.read_trace.Goals as goal

pub returns-clause-formed : goal.returns-clause-formed
returns-clause-formed c = read_is_formed c.whole_trace.result c.args.text.now c.whole_trace.ensures
