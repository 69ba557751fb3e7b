use Rattle.std.proofs.Common.{◌<◌, length, get_or, set, ap, ◌∙◌, arith}
use Rattle.std.proofs.lemmas.List.Edits.{map_over_more}
use Rattle.round_keys.proofs.StoredLemmas.{still_itself}
use Rattle.round_worker.specs.Shown.{WorkerShown}
use Rattle.standing.specs.Turning.{knowing}
use Rattle.rounds.proofs.dealing.tell_all.Goals as goal

pub loop-worker-preserved : goal.loop-worker-preserved
loop-worker-preserved c =
    let ws = c.args.workers.now in
    let i = c.loop-worker.worker-index in
    let w = get_or c.loop-worker.workers i c.worker-item.result in
    let low : i < length ws = omega (arith, c.loop-worker-test.true, c.loop-worker.auto.workers) in
    ap (λ (x : WorkerShown). set c.loop-worker.workers i x) c.in_ok-know.ensures
    ∙ map_over_more (knowing c.args.modules.now) ws c.loop-worker.workers i w low c.loop-worker.invariant (still_itself c.loop-worker.workers i c.worker-item.result)
