use Rattle.std.proofs.Common.{◌≡◌, eqb, not, IfSome, ap, subst, sym, ◌∙◌}
use Rattle.std.specs.Prelude.{option_map}
use Rattle.trace_play.specs.Fits.{entry_at}
use Rattle.trace_play.specs.Live as live
use Rattle.trace_play.specs.Live.{Live}
use Rattle.round_worker.specs.Kept.{IsKept, content_of, live_of}
use Rattle.round_worker.specs.Shown.{WorkerShown}
use Rattle.round_worker.specs.Working.{shown}
use Rattle.round_worker.proofs.KeyLemmas.{live_find, live_where}
use Rattle.round_worker.proofs.KeptLemmas.{if_some}
use Rattle.round_worker.proofs.Keeps.{take_keeps}
use Rattle.round_worker.proofs.worker.Worker.take.Goals as goal

pub invariant_of-self : goal.invariant_of-self
invariant_of-self c =
    let me = c.self.inside in
    take_keeps me.frames me.node me.hooks me.keys me.returning.items c.self.invariant c.take.new.self c.args.key c.take.ensures.keys

pub returns-clause-content : goal.returns-clause-content
returns-clause-content c = ap (option_map content_of) c.take.ensures.value ∙ sym (live_find c.args.key c.self.inside.keys) ∙ ap (λ (w : WorkerShown). entry_at c.args.key w.live) c.self.view_is

pub returns-clause-own : goal.returns-clause-own
returns-clause-own c =
    subst (λ (w : WorkerShown). IfSome c.take.result (IsKept w.board)) c.self.view_is
    (if_some c.take.result (IsKept c.self.inside.node.node.board) (λ kept is. c.self.invariant.kept c.args.key kept (sym c.take.ensures.value ∙ is)))

pub returns-clause-rest : goal.returns-clause-rest
returns-clause-rest c =
    let me = c.self.inside in
    let start = shown me.node me.hooks me.keys me.returning.items me.entries.items me.failed me.uncounted in
    subst (λ (w : WorkerShown). shown me.node me.hooks c.take.new.self me.returning.items me.entries.items me.failed me.uncounted ≡ record w { live = live.without c.args.key w.live })
    c.self.view_is
    (ap (λ (l : Live). record start { live = l }) (ap live_of c.take.ensures.keys ∙ live_where (λ other. not (eqb other c.args.key)) me.keys))
