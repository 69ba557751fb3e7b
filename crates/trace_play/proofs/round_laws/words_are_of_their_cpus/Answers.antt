use Rattle.trace_play.proofs.OwnWords.{own_words}
use Rattle.trace_play.proofs.round_laws.words_are_of_their_cpus.Goals as goal

pub returns : goal.returns
returns c = own_words
