use Rattle.cpu_ops.specs.Machine.{waiting_at}
use Rattle.core_steps.proofs.Left.{left_none, left_zero}
use Rattle.core_steps.proofs.machine.Core.is_idle.Goals as goal

pub returns-clause-left : goal.returns-clause-left
returns-clause-left c =
    rw (← c.self.view_is)
    (let told = c.is_idle.ensures in (
      λ yes. left_zero (waiting_at c.self.inside.machine c.args.cpu) (told.0 yes),
      λ none. told.1 (left_none (record { shape = c.self.inside.shape; sections = c.self.inside.sections; machine = c.self.inside.machine; words = c.self.inside.words.items; modules = c.self.inside.modules }) c.args.cpu c.self.invariant none),
    ))
