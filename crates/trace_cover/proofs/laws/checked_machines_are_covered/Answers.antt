use Rattle.trace_cover.proofs.Told.{front_covered}
use Rattle.trace_cover.proofs.laws.checked_machines_are_covered.Goals as goal

pub returns : goal.returns
returns c = λ trace top formed passes front back stands. front_covered trace top formed passes front back stands
