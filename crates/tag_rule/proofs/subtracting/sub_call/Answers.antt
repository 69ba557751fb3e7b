use Rattle.std.proofs.Common.{sym, ◌∙◌}
use Rattle.tag_rule.proofs.Rows.{last_owes}
use Rattle.tag_rule.proofs.subtracting.sub_call.Goals as goal

pub lower-requires-clause-keeps : goal.lower-requires-clause-keeps
lower-requires-clause-keeps c = (last_owes _ _ _ c.tell.ensures c.requires (sym c.hand.ensures ∙ c.in-Some.is) c.one_less.ensures).keeps
