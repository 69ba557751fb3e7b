use Rattle.std.proofs.Common.{ap}
use Rattle.tag_rule.proofs.Keeps.{same_as}
use Rattle.tag_rule.proofs.seats.exchange.Goals as goal

pub divide_seat-back-requires-clause-moves : goal.divide_seat-back-requires-clause-moves
divide_seat-back-requires-clause-moves g c = same_as _ _ _ (ap (λ m. m.0.parts) c.turn.ensures.seat.1)
