use Rattle.tag_iter.proofs.Left.{places_rise}
use Rattle.tag_iter.proofs.laws.places_rise.Goals as goal

pub returns : goal.returns
returns c = places_rise
