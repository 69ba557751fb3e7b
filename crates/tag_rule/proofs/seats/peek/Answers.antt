use Rattle.std.proofs.Common.{rules}
use Rattle.tag_rule.proofs.Keeps.{peeks_at}
use Rattle.tag_rule.proofs.seats.peek.Goals as goal

pub load-requires : goal.load-requires
load-requires g c = (search rules, search rules, peeks_at _ _ _ _ _ _ g.W.After.after g.W.After.told c.args.words.now.made c.requires.place c.requires.step)
