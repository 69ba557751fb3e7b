use Rattle.std.proofs.Common.{◌≡◌, ℕ, ◌+◌, OnOk, ap, subst, sym, ◌∙◌}
use Rattle.round_worker.specs.Kept.{IsKeptObject}
use Rattle.trace_play.specs.Live as live
use Rattle.trace_play.specs.Live.{Stored}
use Rattle.trace_play.specs.Worker.{one_given, with_live}
use Rattle.round_worker.specs.Shown.{WorkerShown, at_start, with_state}
use Rattle.slab_cache.specs.Shown.{storage_of}
use Rattle.round_worker.specs.Working.{shown}
use Rattle.round_worker.proofs.KeptLemmas.{on_ok}
use Rattle.round_worker.proofs.DoneLemmas.{object_given, one_more_missing}
use Rattle.round_worker.proofs.Keeps.{put_keeps}
use Rattle.round_worker.proofs.worker.Worker.give_object.Goals as goal

pub invariant_of-self : goal.invariant_of-self
invariant_of-self c =
    let me = c.self.inside in
    let kept = subst (λ (w : WorkerShown). IsKeptObject w.board c.args.obj.stored) (sym c.self.view_is) c.requires.kept in
    put_keeps me.frames me.node me.hooks me.keys me.returning.items c.self.invariant c.put.result c.put.new.self c.args.key c.kept_object-kept.result c.put.ensures.put c.put.ensures.err
    (c.kept_object-kept.ensures.kept me.node.node.board kept)

pub returns : goal.returns
returns c =
    let me = c.self.inside in
    let stored = c.args.obj.stored in
    subst (λ (w : WorkerShown). OnOk c.put.result (shown me.node me.hooks c.put.new.self me.returning.items me.entries.items me.failed (me.uncounted + c.cells_missing.result) ≡ with_state (one_given (storage_of stored) (with_live (live.put c.args.key (Stored (storage_of stored)) w.live) (at_start w))) w))
    c.self.view_is
    (on_ok c.put.result
    (λ put. object_given me.node me.hooks me.keys me.returning.items me.entries.items me.failed me.uncounted c.args.key c.kept_object-kept.result (storage_of stored) c.put.new.self (me.uncounted + c.cells_missing.result) put c.kept_object-kept.ensures.content
    (ap (λ (n : ℕ). me.uncounted + n) c.cells_missing.ensures.value ∙ one_more_missing (storage_of stored) me.uncounted))
    c.put.ensures.put)
