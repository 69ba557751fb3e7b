use Rattle.core_steps.proofs.ManagerLeft.{manager_idle}
use Rattle.core_steps.proofs.machine.Core.is_manager_idle.Goals as goal

pub returns-clause-left : goal.returns-clause-left
returns-clause-left c =
    rw (← c.self.view_is)
    (let told = c.is_idle.ensures in
    let both = manager_idle (record { shape = c.self.inside.shape; sections = c.self.inside.sections; machine = c.self.inside.machine; words = c.self.inside.words.items; modules = c.self.inside.modules }) c.self.invariant in (
      λ yes. both.1 (told.0 yes),
      λ none. told.1 (both.0 none),
    ))
