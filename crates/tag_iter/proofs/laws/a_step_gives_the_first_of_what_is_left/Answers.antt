use Rattle.tag_iter.proofs.Left.{step_left}
use Rattle.tag_iter.proofs.laws.a_step_gives_the_first_of_what_is_left.Goals as goal

pub returns : goal.returns
returns c = step_left
