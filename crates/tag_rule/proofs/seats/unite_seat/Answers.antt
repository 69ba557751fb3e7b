use Rattle.std.proofs.Common.{rules, arith}
use Rattle.tag_rule.proofs.Keeps.{joins}
use Rattle.tag_rule.proofs.seats.unite_seat.Goals as goal

pub join_seat-requires : goal.join_seat-requires
join_seat-requires c = (search rules, search rules, search rules, omega (arith, c.args.words.now.wide), joins _ _ _ _ _)
