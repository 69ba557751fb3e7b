use Rattle.std.proofs.Common.{rules, arith}
use Rattle.tag_rule.proofs.Keeps.{turns_at}
use Rattle.tag_rule.proofs.seats.turn.Goals as goal

pub load-requires : goal.load-requires
load-requires g c = (search rules, omega (arith, c.args.words.now.wide), turns_at _ _ _ _ _ g.W.Change.to g.W.Change.told c.args.words.now.made c.requires.moves c.requires.tells)
