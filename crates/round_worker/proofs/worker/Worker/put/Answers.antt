use Rattle.std.proofs.Common.{◌≡◌, OnOk, ap, subst, sym, ◌∙◌}
use Rattle.trace_play.specs.Live as live
use Rattle.trace_play.specs.Live.{Live}
use Rattle.round_worker.specs.Kept.{IsKept, content_of, live_of}
use Rattle.round_worker.specs.Shown.{WorkerShown}
use Rattle.round_worker.specs.Working.{shown}
use Rattle.round_worker.proofs.KeyLemmas.{live_put}
use Rattle.round_worker.proofs.KeptLemmas.{on_ok}
use Rattle.round_worker.proofs.Keeps.{put_keeps}
use Rattle.round_worker.proofs.worker.Worker.put.Goals as goal

pub invariant_of-self : goal.invariant_of-self
invariant_of-self c =
    let me = c.self.inside in
    let own = subst (λ (w : WorkerShown). IsKept w.board c.args.kept) (sym c.self.view_is) c.requires in
    put_keeps me.frames me.node me.hooks me.keys me.returning.items c.self.invariant c.put.result c.put.new.self c.args.key c.args.kept c.put.ensures.put c.put.ensures.err own

pub returns : goal.returns
returns c =
    let me = c.self.inside in
    let start = shown me.node me.hooks me.keys me.returning.items me.entries.items me.failed me.uncounted in
    subst (λ (w : WorkerShown). OnOk c.put.result (shown me.node me.hooks c.put.new.self me.returning.items me.entries.items me.failed me.uncounted ≡ record w { live = live.put c.args.key (content_of c.args.kept) w.live }))
    c.self.view_is
    (on_ok c.put.result (λ put. ap (λ (l : Live). record start { live = l }) (ap live_of put ∙ live_put c.args.key c.args.kept me.keys)) c.put.ensures.put)
