use Rattle.std.proofs.Common.{rules, arith}
use Rattle.tag_rule.proofs.Keeps.{splits_at}
use Rattle.tag_rule.proofs.seats.divide_seat.Goals as goal

pub split_seat-requires : goal.split_seat-requires
split_seat-requires g c = (search rules, omega (arith, c.args.words.now.wide), splits_at _ _ _ _ g.W.Halves.kept g.W.Halves.gone c.args.words.now.made c.requires.moves)
