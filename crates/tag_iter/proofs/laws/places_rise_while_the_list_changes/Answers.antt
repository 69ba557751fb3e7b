use Rattle.tag_iter.proofs.Left.{they_rise_on}
use Rattle.tag_iter.proofs.laws.places_rise_while_the_list_changes.Goals as goal

pub returns : goal.returns
returns c = they_rise_on
