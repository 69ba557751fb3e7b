use Rattle.std.proofs.Common.{◌≡◌, ℕ, ◌*◌, OnOk, subst, sym, ◌∙◌}
use Rattle.tag_model.specs.RefMoves as ref
use Rattle.tag_model.specs.RefMoves.{trim_moves}
use Rattle.tag_rule.specs.Shown.{Board}
use Rattle.tag_ref.specs.Refs.{moved_by}
use Rattle.trace_play.specs.Fits.{TrimFits}
use Rattle.trace_play.specs.Live.{held_of, with_held}
use Rattle.trace_play.specs.Worker.{trim}
use Rattle.trace_play.proofs.AloneLemmas.{holds}
use Rattle.round_worker.specs.Kept.{IsKept, MayTrim, content_of}
use Rattle.round_worker.specs.Shown.{Leaves, Ready, WorkerShown, at_start}
use Rattle.round_worker.specs.Working.{shown}
use Rattle.round_worker.proofs.KeptLemmas.{on_ok}
use Rattle.round_worker.proofs.DoneLemmas.{trimmed_so}
use Rattle.round_worker.proofs.Keeps.{put_keeps, take_keeps}
use Rattle.round_worker.proofs.Needs.{may_trim, not_none}
use Rattle.round_worker.proofs.worker.Worker.trim.Goals as goal

pub trimmed-kept-requires-clause-may : goal.trimmed-kept-requires-clause-may
trimmed-kept-requires-clause-may c =
    let fits = subst (λ (w : WorkerShown). TrimFits c.args.key (c.args.pages * 4096) w.live) (sym c.self.view_is) c.requires.fits in
    subst (λ (n : ℕ). MayTrim (n * 4096) (content_of c.in-Some.kept)) (sym c.from.ensures)
    (may_trim c.args.key (c.args.pages * 4096) c.self.inside.keys c.in-Some.kept (sym c.in-Some.is ∙ c.take.ensures.value) fits)

pub trimmed-kept-requires-clause-own : goal.trimmed-kept-requires-clause-own
trimmed-kept-requires-clause-own c =
    let ready = subst (λ (w : WorkerShown). Ready w c.args.cpu.now) (sym c.self.view_is) c.requires.ready in
    subst (λ (b : Board). IsKept b c.in-Some.kept) ready.table (c.self.invariant.kept c.args.key c.in-Some.kept (sym (sym c.in-Some.is ∙ c.take.ensures.value)))

pub invariant_of-self : goal.invariant_of-self
invariant_of-self c =
    let me = c.self.inside in
    let ready = subst (λ (w : WorkerShown). Ready w c.args.cpu.now) (sym c.self.view_is) c.requires.ready in
    let own = subst (λ (b : Board). IsKept b c.trimmed-kept.result) (sym ready.table) c.trimmed-kept.ensures.own in
    put_keeps me.frames me.node me.hooks c.take.new.self me.returning.items
    (take_keeps me.frames me.node me.hooks me.keys me.returning.items c.self.invariant c.take.new.self c.args.key c.take.ensures.keys)
    c.put.result c.put.new.self c.args.key c.trimmed-kept.result c.put.ensures.put c.put.ensures.err own

pub invariant_of-self-in-None : goal.invariant_of-self-in-None
invariant_of-self-in-None c =
    let me = c.self.inside in
    take_keeps me.frames me.node me.hooks me.keys me.returning.items c.self.invariant c.take.new.self c.args.key c.take.ensures.keys

pub returns-in-Some : goal.returns-in-Some
returns-in-Some c =
    let me = c.self.inside in
    let bytes = c.args.pages * 4096 in
    let ready = subst (λ (w : WorkerShown). Ready w c.args.cpu.now) (sym c.self.view_is) c.requires.ready in
    let same = subst (λ (n : ℕ). content_of c.trimmed-kept.result ≡ with_held (ref.trimmed (n * 4096)) (content_of c.in-Some.kept)) c.from.ensures c.trimmed-kept.ensures.content in
    let moves = subst (λ (n : ℕ). c.trimmed-kept.new.cpu ≡ moved_by (trim_moves c.args.cpu.now.part.number (n * 4096) (held_of (content_of c.in-Some.kept))) c.args.cpu.now) c.from.ensures c.trimmed-kept.ensures.cpu in
    subst (λ (w : WorkerShown). OnOk c.put.result (Leaves (trim c.args.key bytes (at_start w)) w (shown me.node me.hooks c.put.new.self me.returning.items me.entries.items me.failed me.uncounted) c.args.cpu.now c.trimmed-kept.new.cpu))
    c.self.view_is
    (on_ok c.put.result
    (λ put. trimmed_so me.node me.hooks me.keys me.returning.items me.entries.items me.failed me.uncounted c.args.key bytes c.in-Some.kept c.trimmed-kept.result c.take.new.self c.put.new.self
    c.args.cpu.now c.trimmed-kept.new.cpu ready.own (holds c.take.ensures.rises) (sym c.in-Some.is ∙ c.take.ensures.value) c.take.ensures.keys put same moves)
    c.put.ensures.put)

pub returns-in-None : goal.returns-in-None
returns-in-None c =
    let fits = subst (λ (w : WorkerShown). TrimFits c.args.key (c.args.pages * 4096) w.live) (sym c.self.view_is) c.requires.fits in
    not_none c.args.key fits.order fits.left c.self.inside.keys (sym c.in-None.is ∙ c.take.ensures.value) fits.block
