use Rattle.trace_play.proofs.SideBySide.{in_either_order}
use Rattle.trace_play.proofs.round_laws.order_does_not_matter.Goals as goal

pub returns : goal.returns
returns c = in_either_order
