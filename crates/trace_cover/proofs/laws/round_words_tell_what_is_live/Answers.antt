use Rattle.trace_cover.proofs.Told.{round_tells}
use Rattle.trace_cover.proofs.laws.round_words_tell_what_is_live.Goals as goal

pub returns : goal.returns
returns c = λ trace top ops before after formed passes round none walked kind tag. round_tells trace top ops before after formed passes round none walked kind tag
