use Rattle.trace_play.proofs.ReadyHolds.{rounds_ready}
use Rattle.trace_play.proofs.trace_laws.checked_rounds_are_ready.Goals as goal

pub returns : goal.returns
returns c = rounds_ready
