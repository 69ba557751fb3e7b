use Rattle.run_text.proofs.WordLemmas.{moved_are_live}
use Rattle.run_text.proofs.laws.moved_words_are_live.Goals as goal

pub returns : goal.returns
returns c = moved_are_live
