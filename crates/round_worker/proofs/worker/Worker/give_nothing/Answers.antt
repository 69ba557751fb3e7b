use Rattle.std.proofs.Common.{◌≡◌, ◌+◌, OnOk, None, subst}
use Rattle.trace_play.specs.Worker.{allocated}
use Rattle.round_worker.specs.declared.keys.Kept.TheVariants.{Nothing}
use Rattle.round_worker.specs.Shown.{WorkerShown, at_start, with_state}
use Rattle.round_worker.specs.Working.{shown}
use Rattle.round_worker.proofs.KeptLemmas.{on_ok}
use Rattle.round_worker.proofs.DoneLemmas.{nothing_given}
use Rattle.round_worker.proofs.Keeps.{put_keeps}
use Rattle.round_worker.proofs.worker.Worker.give_nothing.Goals as goal

pub invariant_of-self : goal.invariant_of-self
invariant_of-self c =
    put_keeps c.self.inside.frames c.self.inside.node c.self.inside.hooks c.self.inside.keys c.self.inside.returning.items c.self.invariant
    c.put.result c.put.new.self c.args.key (Nothing c.args.order) c.put.ensures.put c.put.ensures.err c.requires.small

pub returns : goal.returns
returns c =
    let me = c.self.inside in
    subst (λ (w : WorkerShown). OnOk c.put.result (shown me.node me.hooks c.put.new.self me.returning.items me.entries.items (me.failed + 1) me.uncounted ≡ with_state (allocated c.args.key c.args.order None (at_start w)) w))
    c.self.view_is
    (on_ok c.put.result (nothing_given me.node me.hooks me.keys me.returning.items me.entries.items me.failed me.uncounted c.args.key c.args.order c.put.new.self) c.put.ensures.put)
