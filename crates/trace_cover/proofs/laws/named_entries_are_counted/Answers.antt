use Rattle.trace_cover.proofs.Told.{round_counted}
use Rattle.trace_cover.proofs.laws.named_entries_are_counted.Goals as goal

pub returns : goal.returns
returns c = λ trace top ops before after formed passes round none walked. round_counted trace top ops before after formed passes round none walked
