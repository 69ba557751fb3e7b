use Rattle.tag_rule.proofs.Hands.{condition}
use Rattle.tag_rule.proofs.laws.the_hand_that_is_found_serves.Goals as goal

pub returns : goal.returns
returns c part was next hand fits row = condition part was next hand fits row
