use Rattle.std.proofs.Common.{◌++◌}
use Rattle.tag_rule.specs.Rule.{view_of}
use Rattle.tag_rule.proofs.seats.exchange.Given as goal

abbrev pub ghosts-turn : goal.ghosts-turn
ghosts-turn g a = record { to = view_of (g.W.Exchange.kept.parts ++ g.W.Exchange.gone.parts); told = g.W.Exchange.told }

abbrev pub ghosts-divide_seat : goal.ghosts-divide_seat
ghosts-divide_seat g a = record { kept = g.W.Exchange.kept; gone = g.W.Exchange.gone }
