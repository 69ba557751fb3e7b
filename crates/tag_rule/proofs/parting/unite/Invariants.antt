use Rattle.tag_rule.proofs.Pools.{Apart}
use Rattle.tag_rule.proofs.parting.unite.Given as goal

abbrev pub ghosts-turn : goal.ghosts-turn
ghosts-turn a = record { to = a.seat.now.me.0; told = Apart a.seat.now.me.0.parts }
