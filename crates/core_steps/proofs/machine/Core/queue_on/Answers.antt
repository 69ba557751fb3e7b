use Rattle.core_steps.specs.CoreState.{CoreState}
use Rattle.core_steps.proofs.Queued.{at_start, after_queue, cpu_queued, ok_machine, err_machine}
use Rattle.core_steps.proofs.machine.Core.queue_on.Goals as goal

pub queue-requires-clause-at_start : goal.queue-requires-clause-at_start
queue-requires-clause-at_start c = at_start (record { shape = c.self.inside.shape; sections = c.self.inside.sections; machine = c.self.inside.machine; words = c.self.inside.words.items; modules = c.self.inside.modules }) c.args.cpu c.self.invariant (rw (← c.self.view_is) at c.requires.cpu)

pub invariant_of-self : goal.invariant_of-self
invariant_of-self c =
    let s : CoreState = record { shape = c.self.inside.shape; sections = c.self.inside.sections; machine = c.self.inside.machine; words = c.self.inside.words.items; modules = c.self.inside.modules } in
    after_queue s _ _ c.queue.result c.self.invariant (cpu_queued s c.args.cpu c.args.op c.self.invariant (rw (← c.self.view_is) at c.requires.cpu) (rw (← c.self.view_is) at c.requires.op))
    (ok_machine s _ _ c.queue.result c.queue.ensures.ok) (err_machine s _ c.queue.result c.queue.ensures.err)
