use Rattle.std.proofs.Common.{OnOk, subst, sym, ◌∙◌}
use Rattle.tag_rule.specs.Shown.{Board}
use Rattle.trace.specs.declared.traces.TraceOp.TheVariants as op
use Rattle.trace_play.specs.Fits.{SwapFits}
use Rattle.trace_play.specs.Worker.{done}
use Rattle.trace_play.proofs.AloneLemmas.{holds}
use Rattle.round_worker.specs.Kept.{IsKept}
use Rattle.round_worker.specs.Shown.{Leaves, Ready, WorkerShown, at_start}
use Rattle.round_worker.specs.Working.{shown}
use Rattle.round_worker.proofs.KeptLemmas.{on_ok}
use Rattle.round_worker.proofs.DoneLemmas.{swapped_so}
use Rattle.round_worker.proofs.Keeps.{put_keeps, take_keeps}
use Rattle.round_worker.proofs.Needs.{may_swap, none_is, not_none, still_there}
use Rattle.round_worker.proofs.worker.Worker.swap.Goals as goal

pub invariant_of-self : goal.invariant_of-self
invariant_of-self c =
    let me = c.self.inside in
    take_keeps me.frames me.node me.hooks me.keys me.returning.items c.self.invariant c.take.new.self c.args.one c.take.ensures.keys

pub returns-in_default : goal.returns-in_default
returns-in_default c =
    let fits = subst (λ (w : WorkerShown). SwapFits c.args.one c.args.two w.live) (sym c.self.view_is) c.requires.fits in
    not_none c.args.one fits.order _ c.self.inside.keys (sym (none_is c.take.result c.in_default.not-Some) ∙ c.take.ensures.value) fits.first

pub invariant_of-self-in_default-take : goal.invariant_of-self-in_default-take
invariant_of-self-in_default-take c =
    let me = c.self.inside in
    take_keeps me.frames me.node me.hooks c.take.new.self me.returning.items
    (take_keeps me.frames me.node me.hooks me.keys me.returning.items c.self.invariant c.take.new.self c.args.one c.take.ensures.keys)
    c.take-2.new.self c.args.two c.take-2.ensures.keys

pub returns-in_default-take : goal.returns-in_default-take
returns-in_default-take c =
    let fits = subst (λ (w : WorkerShown). SwapFits c.args.one c.args.two w.live) (sym c.self.view_is) c.requires.fits in
    not_none c.args.two fits.order _ c.self.inside.keys
    (sym (none_is c.take-2.result c.in_default-take.not-Some) ∙ c.take-2.ensures.value ∙ still_there c.args.one c.args.two c.self.inside.keys c.take.new.self c.requires.apart c.take.ensures.keys) fits.second

pub exchanged-first-requires-clause-own : goal.exchanged-first-requires-clause-own
exchanged-first-requires-clause-own c =
    let ready = subst (λ (w : WorkerShown). Ready w c.args.cpu.now) (sym c.self.view_is) c.requires.ready in
    let kept = c.self.invariant.kept in (
      subst (λ (b : Board). IsKept b c.in-Some.first) ready.table (kept c.args.one c.in-Some.first (sym (sym c.in-Some.is ∙ c.take.ensures.value))),
      subst (λ (b : Board). IsKept b c.in-Some-take.second) ready.table
          (kept c.args.two c.in-Some-take.second (sym (sym c.in-Some-take.is ∙ c.take-2.ensures.value ∙ still_there c.args.one c.args.two c.self.inside.keys c.take.new.self c.requires.apart c.take.ensures.keys))),
    )

pub exchanged-first-requires-clause-may : goal.exchanged-first-requires-clause-may
exchanged-first-requires-clause-may c =
    let fits = subst (λ (w : WorkerShown). SwapFits c.args.one c.args.two w.live) (sym c.self.view_is) c.requires.fits in
    may_swap c.args.one c.args.two c.self.inside.keys c.in-Some.first c.in-Some-take.second (sym c.in-Some.is ∙ c.take.ensures.value)
    (sym c.in-Some-take.is ∙ c.take-2.ensures.value ∙ still_there c.args.one c.args.two c.self.inside.keys c.take.new.self c.requires.apart c.take.ensures.keys) fits

pub invariant_of-self-in_err-put : goal.invariant_of-self-in_err-put
invariant_of-self-in_err-put c =
    let me = c.self.inside in
    let ready = subst (λ (w : WorkerShown). Ready w c.args.cpu.now) (sym c.self.view_is) c.requires.ready in
    let taken = take_keeps me.frames me.node me.hooks c.take.new.self me.returning.items
    (take_keeps me.frames me.node me.hooks me.keys me.returning.items c.self.invariant c.take.new.self c.args.one c.take.ensures.keys)
    c.take-2.new.self c.args.two c.take-2.ensures.keys in
    put_keeps me.frames me.node me.hooks c.take-2.new.self me.returning.items taken c.put.result c.put.new.self c.args.two c.exchanged-first.result.1 c.put.ensures.put c.put.ensures.err
    (subst (λ (b : Board). IsKept b c.exchanged-first.result.1) (sym ready.table) c.exchanged-first.ensures.own.1)

pub invariant_of-self-2 : goal.invariant_of-self-2
invariant_of-self-2 c =
    let me = c.self.inside in
    let ready = subst (λ (w : WorkerShown). Ready w c.args.cpu.now) (sym c.self.view_is) c.requires.ready in
    let taken = take_keeps me.frames me.node me.hooks c.take.new.self me.returning.items
    (take_keeps me.frames me.node me.hooks me.keys me.returning.items c.self.invariant c.take.new.self c.args.one c.take.ensures.keys)
    c.take-2.new.self c.args.two c.take-2.ensures.keys in
    let one_put = put_keeps me.frames me.node me.hooks c.take-2.new.self me.returning.items taken c.put.result c.put.new.self c.args.two c.exchanged-first.result.1 c.put.ensures.put c.put.ensures.err
    (subst (λ (b : Board). IsKept b c.exchanged-first.result.1) (sym ready.table) c.exchanged-first.ensures.own.1) in
    put_keeps me.frames me.node me.hooks c.put.new.self me.returning.items one_put c.put-2.result c.put-2.new.self c.args.one c.exchanged-first.result.0 c.put-2.ensures.put c.put-2.ensures.err
    (subst (λ (b : Board). IsKept b c.exchanged-first.result.0) (sym ready.table) c.exchanged-first.ensures.own.0)

pub returns : goal.returns
returns c =
    let me = c.self.inside in
    subst (λ (w : WorkerShown). OnOk c.put-2.result (Leaves (done w.entries (op.Swap c.args.one c.args.two) (at_start w)) w
    (shown me.node me.hooks c.put-2.new.self me.returning.items me.entries.items me.failed me.uncounted) c.args.cpu.now c.exchanged-first.new.cpu))
    c.self.view_is
    (on_ok c.put-2.result
    (λ put. swapped_so me.node me.hooks me.keys me.returning.items me.entries.items me.failed me.uncounted c.args.one c.args.two c.in-Some.first c.in-Some-take.second c.exchanged-first.result.0 c.exchanged-first.result.1
    c.take.new.self c.take-2.new.self c.put.new.self c.put-2.new.self c.args.cpu.now c.exchanged-first.new.cpu c.requires.apart (holds c.take.ensures.rises)
    (sym c.in-Some.is ∙ c.take.ensures.value) c.take.ensures.keys (sym c.in-Some-take.is ∙ c.take-2.ensures.value) c.take-2.ensures.keys c.in_ok-put.ensures.put put
    c.exchanged-first.ensures.first c.exchanged-first.ensures.second c.exchanged-first.ensures.cpu)
    c.put-2.ensures.put)
