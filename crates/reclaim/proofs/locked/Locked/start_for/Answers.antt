use Rattle.std.proofs.Common.{ap, ◌∙◌}
use Rattle.module_area.specs.Area.{least_start}
use Rattle.reclaim.specs.State.{LockedShown}
use Rattle.reclaim.proofs.locked.Locked.start_for.Goals as goal

pub returns : goal.returns
returns c = c.least_start.ensures.value ∙ ap (λ (x : LockedShown). least_start x.area c.args.size) c.self.view_is
