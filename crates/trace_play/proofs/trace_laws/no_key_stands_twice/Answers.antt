use Rattle.trace_play.proofs.Rising.{keys_rise}
use Rattle.trace_play.proofs.trace_laws.no_key_stands_twice.Goals as goal

pub returns : goal.returns
returns c = keys_rise
