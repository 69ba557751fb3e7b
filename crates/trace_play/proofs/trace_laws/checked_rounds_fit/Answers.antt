use Rattle.trace_play.proofs.TraceFits.{rounds_fit}
use Rattle.trace_play.proofs.trace_laws.checked_rounds_fit.Goals as goal

pub returns : goal.returns
returns c = rounds_fit
