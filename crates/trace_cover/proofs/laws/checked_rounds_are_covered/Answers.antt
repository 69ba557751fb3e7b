use Rattle.trace_cover.proofs.Told.{round_covered}
use Rattle.trace_cover.proofs.laws.checked_rounds_are_covered.Goals as goal

pub returns : goal.returns
returns c = λ trace top ops before after formed passes round none walked. round_covered trace top ops before after formed passes round none walked
