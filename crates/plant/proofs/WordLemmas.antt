-- The words of the slabs of workers, and of keys and slabs together.
use Rattle.std.proofs.Common.{◌≡◌, ℕ, List, Option, All, ap}
use Rattle.std.proofs.lemmas.List.Elements.{All-weaker}
use Rattle.tag_rule.specs.Shown.{Board}
use Rattle.trace_play.specs.Left.{word_at}
use Rattle.trace_play.specs.Machine.{slab_cells}
use Rattle.round_worker.proofs.CellLemmas.{all_found}
use Rattle.round_worker.specs.Cells.{first_some}
use Rattle.round_worker.specs.Shown.{WorkerShown}
use Rattle.plant.specs.Table.{slab_cells_of}

-- the word of the cell with the index, if it is that of a slab of the worker
abbrev pub worker_word : ℕ → WorkerShown → Option ℕ
worker_word index w = word_at w.board.shape index (slab_cells w.seat.node)

pub workers_found : (board : Board) (index : ℕ) (ws : List WorkerShown) → All (λ (w : WorkerShown). w.board ≡ board) ws → first_some (worker_word index) ws ≡ word_at board.shape index (slab_cells_of ws)
workers_found board index ws own =
    all_found board.shape index (worker_word index) (λ (w : WorkerShown). slab_cells w.seat.node) ws
    (All-weaker (λ (w : WorkerShown). w.board ≡ board) (λ (w : WorkerShown). worker_word index w ≡ word_at board.shape index (slab_cells w.seat.node)) (λ w e. ap (λ (b : Board). word_at b.shape index (slab_cells w.seat.node)) e) ws own)
