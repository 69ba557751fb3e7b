use Rattle.std.proofs.Common.{◌+◌, List, drop, sym, ap, ◌∙◌, arith}
use Rattle.std.specs.Option.{option_or}
use Rattle.std.proofs.lemmas.List.{drop_all, drop_more}
use Rattle.round_keys.proofs.StoredLemmas.{some_first}
use Rattle.round_worker.specs.Cells.{first_some}
use Rattle.round_worker.specs.Shown.{WorkerShown}
use Rattle.plant.proofs.WordLemmas.{worker_word, workers_found}
use Rattle.plant.proofs.left.slab_word_at.Goals as goal

pub returns-then-is_some : goal.returns-then-is_some
returns-then-is_some c board own =
    let give = worker_word c.args.cell in
    let workers = c.args.workers.now in
    let rest = first_some give (drop (c.loop-worker.worker-index + 1) workers) in
    some_first c.word_at-word.result rest (sym c.is_some.ensures ∙ c.if-is_some.true)
    ∙ ap (λ w. option_or w rest) c.word_at-word.ensures
    ∙ ap (λ (w : WorkerShown). option_or (give w) rest) c.worker-item.is
    ∙ sym (ap (λ (ws : List WorkerShown). first_some give ws) (drop_more workers c.loop-worker.worker-index c.worker-item.result c.loop-worker-test.true))
    ∙ c.loop-worker.invariant ∙ workers_found board c.args.cell workers own

pub returns : goal.returns
returns c board own =
    let give = worker_word c.args.cell in
    let workers = c.args.workers.now in
    sym (ap (λ (ws : List WorkerShown). first_some give ws) (drop_all c.loop-worker.worker-index workers (omega (arith, c.loop-worker-test.false))))
    ∙ c.loop-worker.invariant ∙ workers_found board c.args.cell workers own
