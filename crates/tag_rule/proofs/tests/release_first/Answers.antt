use Rattle.std.proofs.Common.{sym, ◌∙◌}
use Rattle.tag_rule.proofs.Changed.{may_release_first}
use Rattle.tag_rule.proofs.tests.release_first.Goals as goal

pub change_list-requires : goal.change_list-requires
change_list-requires c = may_release_first c.args.list.now.part.sweep c.in-Some.id (sym c.releasable.ensures ∙ c.in-Some.is)
