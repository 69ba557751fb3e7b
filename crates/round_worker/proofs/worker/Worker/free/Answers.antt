use Rattle.std.proofs.Common.{OnOk, refl, subst, sym, ◌∙◌}
use Rattle.trace.specs.declared.traces.TraceOp.TheVariants as op
use Rattle.trace_play.specs.Live.{Content}
use Rattle.trace_play.specs.Fitting.{FreeFits, IsThere}
use Rattle.trace_play.specs.Worker.{done}
use Rattle.round_worker.specs.Kept.{content_of}
use Rattle.round_worker.specs.Shown.{Leaves, Ready, WorkerShown, at_start}
use Rattle.round_worker.specs.Working.{shown}
use Rattle.round_worker.proofs.KeptLemmas.{on_ok}
use Rattle.round_worker.proofs.DoneLemmas.{freed_so, nothing_freed}
use Rattle.round_worker.proofs.Keeps.{take_keeps}
use Rattle.round_worker.proofs.Needs.{content_is, there_still}
use Rattle.round_worker.proofs.worker.Worker.free.Goals as goal

pub invariant_of-self : goal.invariant_of-self
invariant_of-self c =
    let me = c.self.inside in
    take_keeps me.frames me.node me.hooks me.keys me.returning.items c.self.invariant c.take.new.self c.args.key c.take.ensures.keys

pub invariant_of-self-in-None : goal.invariant_of-self-in-None
invariant_of-self-in-None c =
    let me = c.self.inside in
    take_keeps me.frames me.node me.hooks me.keys me.returning.items c.self.invariant c.take.new.self c.args.key c.take.ensures.keys

pub free_kept-requires-clause-own : goal.free_kept-requires-clause-own
free_kept-requires-clause-own c = c.self.invariant.kept c.args.key c.in-Some.kept (sym (sym c.in-Some.is ∙ c.take.ensures.value))

pub free_kept-requires-clause-there : goal.free_kept-requires-clause-there
free_kept-requires-clause-there c =
    let me = c.self.inside in
    let start = at_start (shown me.node me.hooks me.keys me.returning.items me.entries.items me.failed me.uncounted) in
    let there = subst (λ (w : WorkerShown). FreeFits (op.Free c.args.key) (at_start w)) (sym c.self.view_is) c.requires.there in
    there_still (content_of c.in-Some.kept) start (at_start (shown me.node me.hooks c.take.new.self me.returning.items me.entries.items me.failed me.uncounted)) refl
    (subst (λ (content : Content). IsThere content start) (content_is c.args.key me.keys c.in-Some.kept (sym c.in-Some.is ∙ c.take.ensures.value)) there)

pub returns-in-Some : goal.returns-in-Some
returns-in-Some c =
    let me = c.self.inside in
    let ready = subst (λ (w : WorkerShown). Ready w c.args.cpu.now) (sym c.self.view_is) c.requires.ready in
    subst (λ (w : WorkerShown). OnOk c.free_kept.result (Leaves (done w.entries (op.Free c.args.key) (at_start w)) w c.free_kept.new.self c.args.cpu.now c.free_kept.new.cpu))
    c.self.view_is
    (on_ok c.free_kept.result
    (freed_so me.node me.hooks me.keys me.returning.items me.entries.items me.failed me.uncounted c.args.key c.in-Some.kept c.take.new.self c.free_kept.new.self c.args.cpu.now c.free_kept.new.cpu
    ready.own (sym c.in-Some.is ∙ c.take.ensures.value) c.take.ensures.keys)
    c.free_kept.ensures)

pub returns-in-None : goal.returns-in-None
returns-in-None c =
    let me = c.self.inside in
    subst (λ (w : WorkerShown). Leaves (done w.entries (op.Free c.args.key) (at_start w)) w (shown me.node me.hooks c.take.new.self me.returning.items me.entries.items me.failed me.uncounted) c.args.cpu.now c.args.cpu.now)
    c.self.view_is
    (nothing_freed me.node me.hooks me.keys me.returning.items me.entries.items me.failed me.uncounted c.args.key c.take.new.self c.args.cpu.now (sym c.in-None.is ∙ c.take.ensures.value) c.take.ensures.keys)
