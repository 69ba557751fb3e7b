use Rattle.tag_iter.proofs.Left.{walk_gives}
use Rattle.tag_iter.proofs.laws.a_walk_gives_each_place_once.Goals as goal

pub returns : goal.returns
returns c = walk_gives
