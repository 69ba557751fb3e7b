use Rattle.trace_play.proofs.WordsTotal.{rows_tell}
use Rattle.trace_play.proofs.trace_laws.rows_tell_what_is_live.Goals as goal

pub returns : goal.returns
returns c = rows_tell
