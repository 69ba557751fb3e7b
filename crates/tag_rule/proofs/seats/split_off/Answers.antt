use Rattle.tag_rule.proofs.Bases.{cut_at}
use Rattle.tag_rule.proofs.seats.split_off.Goals as goal

pub divide_seat-requires-clause-moves : goal.divide_seat-requires-clause-moves
divide_seat-requires-clause-moves c = cut_at _ _ _
