use Rattle.tag_model.proofs.MovedWords.{follows, lowers_is, not_own, raises_is}
use Rattle.tag_model.proofs.list_machine.words_follow_moves.Goals as goal

pub returns : goal.returns
returns c = record { raised = raises_is; lowered = lowers_is; another_cpus = not_own; follow = follows }
