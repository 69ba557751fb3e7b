use Rattle.std.proofs.Common.{take, drop}
use Rattle.tag_rule.specs.Rule.{view_of}
use Rattle.tag_rule.proofs.seats.take_front.Given as goal

abbrev pub ghosts-divide_seat : goal.ghosts-divide_seat
ghosts-divide_seat a = record { kept = view_of (drop a._about.now a.seat.now.me.0.parts); gone = view_of (take a._about.now a.seat.now.me.0.parts) }
