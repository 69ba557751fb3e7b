use Rattle.trace_play.specs.Play.{played_so_far}
use Rattle.trace_play.proofs.TotalsHold.{accounted, totals_after}
use Rattle.trace_play.proofs.trace_laws.totals_are_live.Goals as goal

pub returns : goal.returns
returns c = λ trace top formed passes front back stands kind tag. accounted kind tag (played_so_far trace top front).played.machine (totals_after kind tag trace top formed passes front back stands)
