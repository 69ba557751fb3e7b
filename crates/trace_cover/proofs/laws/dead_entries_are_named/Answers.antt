use Rattle.trace_cover.proofs.Told.{front_named}
use Rattle.trace_cover.proofs.laws.dead_entries_are_named.Goals as goal

pub returns : goal.returns
returns c = λ trace top formed passes front back stands. front_named trace top formed passes front back stands
