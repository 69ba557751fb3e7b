use Rattle.std.proofs.Common.{rules}
use Rattle.tag_rule.proofs.Keeps.{goes_at}
use Rattle.tag_rule.proofs.seats.add.Goals as goal

pub fetch_add-requires : goal.fetch_add-requires
fetch_add-requires g c = (search rules, search rules, goes_at _ _ _ _ _ _ _ g.W.After.after g.W.After.told c.args.words.now.made c.requires.place c.requires.step)
