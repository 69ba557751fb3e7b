use Rattle.std.proofs.Common.{◌≡◌, drop}
use Rattle.round_worker.specs.Cells.{first_some}
use Rattle.plant.proofs.WordLemmas.{worker_word}
use Rattle.plant.proofs.left.slab_word_at.Given as goal

abbrev pub invariant-loop-worker : goal.invariant-loop-worker
invariant-loop-worker l = first_some (worker_word l.cell) (drop l.worker-index l.workers) ≡ first_some (worker_word l.cell) l.workers
