use Rattle.std.proofs.Common.{List, ap, length, reverse, ◌∙◌}
use Rattle.std.specs.Prelude.{slice_get}
use Rattle.tag_model.specs.declared.state.Tag.{Tag}
use Rattle.round_worker.proofs.HookLemmas.{current_is, depth_is}
use Rattle.round_worker.proofs.hooks.Hooks.task.Goals as goal

pub returns-clause-current : goal.returns-clause-current
returns-clause-current c = current_is c.self.inside.task (reverse c.self.inside.out.items) c.self.invariant ∙ ap (λ (tags : List Tag). slice_get tags 0) c.self.view_is

pub returns-clause-depth : goal.returns-clause-depth
returns-clause-depth c = depth_is c.self.inside.task (reverse c.self.inside.out.items) c.self.invariant ∙ ap (λ (tags : List Tag). length tags) c.self.view_is
