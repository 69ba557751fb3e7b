use Rattle.tag_rule.proofs.Keeps.{same_moves}
use Rattle.tag_rule.proofs.Meets.{tells_all}
use Rattle.tag_rule.proofs.meeting.stand.Goals as goal

pub turn-requires-clause-moves : goal.turn-requires-clause-moves
turn-requires-clause-moves c = same_moves _ _

pub turn-requires-clause-tells : goal.turn-requires-clause-tells
turn-requires-clause-tells c = tells_all _ _
