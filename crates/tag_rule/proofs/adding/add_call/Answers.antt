use Rattle.tag_rule.proofs.Rows.{call_owes}
use Rattle.tag_rule.proofs.adding.add_call.Goals as goal

pub raise-requires-clause-tag : goal.raise-requires-clause-tag
raise-requires-clause-tag c = (call_owes _ _ _ _ c.tell.ensures c.requires c.hand.ensures c.one_more-hand.ensures).low

pub raise-requires-clause-hand : goal.raise-requires-clause-hand
raise-requires-clause-hand c = (call_owes _ _ _ _ c.tell.ensures c.requires c.hand.ensures c.one_more-hand.ensures).hand

pub raise-requires-clause-keeps : goal.raise-requires-clause-keeps
raise-requires-clause-keeps c = (call_owes _ _ _ _ c.tell.ensures c.requires c.hand.ensures c.one_more-hand.ensures).keeps
