use Rattle.std.proofs.Common.{subst, sym}
use Rattle.round_worker.specs.Kept.{KeyList}
use Rattle.round_worker.specs.Parting.{AreKept}
use Rattle.round_worker.specs.Shown.{WorkerShown}
use Rattle.round_worker.proofs.worker.Worker.give_keys.Goals as goal

pub returns-clause-own : goal.returns-clause-own
returns-clause-own c =
    subst (λ (w : WorkerShown). AreKept w.board c.replace.result) c.self.view_is
    (subst (λ (keys : KeyList). AreKept c.self.inside.node.node.board keys) (sym c.replace.ensures.value) c.self.invariant.kept)
