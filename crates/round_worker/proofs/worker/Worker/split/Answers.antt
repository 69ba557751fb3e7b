use Rattle.std.proofs.Common.{OnOk, subst, sym, ◌∙◌}
use Rattle.trace_play.specs.Fits.{SplitFits}
use Rattle.trace_play.specs.Worker.{split}
use Rattle.trace_play.proofs.AloneLemmas.{holds}
use Rattle.page_ext.specs.Blocks.{page_bytes}
use Rattle.round_worker.specs.Parting.{kept_part}
use Rattle.round_worker.specs.Shown.{Leaves, Ready, WorkerShown, at_start}
use Rattle.round_worker.specs.Working.{shown}
use Rattle.round_worker.proofs.DoneLemmas.{split_so}
use Rattle.round_worker.proofs.Keeps.{take_keeps, with_keys}
use Rattle.round_worker.proofs.Needs.{may_split, not_none}
use Rattle.round_worker.proofs.Splits.{on_both, part_content}
use Rattle.round_worker.proofs.worker.Worker.split.Goals as goal

pub split_kept-requires-clause-may : goal.split_kept-requires-clause-may
split_kept-requires-clause-may c =
    let fits = subst (λ (w : WorkerShown). SplitFits c.args.key c.args.order c.args.first w.live) (sym c.self.view_is) c.requires.fits in
    may_split c.args.key c.args.order c.args.first c.self.inside.keys c.in-Some.kept (sym c.in-Some.is ∙ c.take.ensures.value) fits

pub invariant_of-self : goal.invariant_of-self
invariant_of-self c =
    let me = c.self.inside in
    let ready = subst (λ (w : WorkerShown). Ready w c.args.cpu.now) (sym c.self.view_is) c.requires.ready in
    let taken = take_keeps me.frames me.node me.hooks me.keys me.returning.items c.self.invariant c.take.new.self c.args.key c.take.ensures.keys in
    with_keys me.frames me.node me.hooks me.keys me.returning.items c.self.invariant c.split_kept.new.keys (c.split_kept.ensures.kept me.node.node.board (sym ready.table) taken.kept)

pub invariant_of-self-in-None : goal.invariant_of-self-in-None
invariant_of-self-in-None c =
    let me = c.self.inside in
    take_keeps me.frames me.node me.hooks me.keys me.returning.items c.self.invariant c.take.new.self c.args.key c.take.ensures.keys

pub returns-in-Some : goal.returns-in-Some
returns-in-Some c =
    let me = c.self.inside in
    let ready = subst (λ (w : WorkerShown). Ready w c.args.cpu.now) (sym c.self.view_is) c.requires.ready in
    let found = sym c.in-Some.is ∙ c.take.ensures.value in
    let own = c.self.invariant.kept c.args.key c.in-Some.kept (sym found) in
    subst (λ (w : WorkerShown). OnOk c.split_kept.result (Leaves (split c.args.key c.args.order c.args.first (at_start w)) w
    (shown me.node me.hooks c.split_kept.new.keys me.returning.items me.entries.items me.failed me.uncounted) c.args.cpu.now c.split_kept.new.cpu))
    c.self.view_is
    (on_both c.split_kept.result
    (split_so me.node me.hooks me.keys me.returning.items me.entries.items me.failed me.uncounted c.args.key c.args.order c.args.first c.in-Some.kept (kept_part c.args.order c.in-Some.kept)
    c.take.new.self c.split_kept.new.keys c.args.cpu.now c.split_kept.new.cpu ready.own (holds c.take.ensures.rises) found c.take.ensures.keys
    (part_content me.node.node.board c.args.order c.in-Some.kept own))
    c.split_kept.ensures.put c.split_kept.ensures.cpu)

pub returns-in-None : goal.returns-in-None
returns-in-None c =
    let fits = subst (λ (w : WorkerShown). SplitFits c.args.key c.args.order c.args.first w.live) (sym c.self.view_is) c.requires.fits in
    not_none c.args.key fits.whole (page_bytes fits.whole) c.self.inside.keys (sym c.in-None.is ∙ c.take.ensures.value) fits.block
