use Rattle.std.proofs.Common.{rules}
use Rattle.tag_rule.proofs.Keeps.{goes_at}
use Rattle.tag_rule.proofs.seats.subtract.Goals as goal

pub fetch_sub-requires : goal.fetch_sub-requires
fetch_sub-requires g c = (search rules, search rules, goes_at _ _ _ _ _ _ _ g.W.After.after g.W.After.told c.args.words.now.made c.requires.place c.requires.step)
