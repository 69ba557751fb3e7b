use Rattle.tag_rule.proofs.Bases.{cut_front}
use Rattle.tag_rule.proofs.seats.take_front.Goals as goal

pub divide_seat-requires-clause-moves : goal.divide_seat-requires-clause-moves
divide_seat-requires-clause-moves c = cut_front _ _ _
