use Rattle.core_steps.specs.CoreState.{CoreState}
use Rattle.core_steps.proofs.ManagerCore.{manager_queued}
use Rattle.core_steps.proofs.Queued.{after_queue, ok_modules, err_modules}
use Rattle.core_steps.proofs.machine.Core.queue_for_manager.Goals as goal

pub invariant_of-self : goal.invariant_of-self
invariant_of-self c =
    let s : CoreState = record { shape = c.self.inside.shape; sections = c.self.inside.sections; machine = c.self.inside.machine; words = c.self.inside.words.items; modules = c.self.inside.modules } in
    after_queue s _ _ c.queue.result c.self.invariant (manager_queued s c.args.op c.self.invariant (rw (← c.self.view_is) at c.requires))
    (ok_modules s _ _ c.queue.result c.queue.ensures.ok) (err_modules s _ c.queue.result c.queue.ensures.err)
