-- Workers and their CPUs, one by one.
use Rattle.std.specs.Prelude.{ℕ, ◌≡◌, ◌<◌, All, List, [], ◌∷◌, map, length, slice_index_or}
use Rattle.tag_rule.specs.Shown.{Board, CpuShown}
use Rattle.trace_play.specs.Worker.{Seat}
use Rattle.trace_play.specs.Machine.{fresh_seat}
use Rattle.round_worker.specs.Shown.{Beside, WorkerShown}

abbrev pub seats_of : List WorkerShown → List Seat
seats_of workers = map (λ (w : WorkerShown). w.seat) workers

-- as many workers as CPUs, by number, each beside its own CPU, all of one table
pub record AreBeside (workers : List WorkerShown) (cpus : List CpuShown) : Type 0 where
  pub board : Board
  pub long : length workers ≡ length cpus
  pub tables : All (λ (w : WorkerShown). w.board ≡ board) workers
  pub numbers : (cpu : ℕ) (w : WorkerShown) → cpu < length workers → (slice_index_or workers cpu w).cpu ≡ cpu
  pub each : (cpu : ℕ) (w : WorkerShown) (seat : CpuShown) → cpu < length workers → Beside (slice_index_or workers cpu w) (slice_index_or cpus cpu seat)

-- the workers with these seats
abbrev pub with_seats : List Seat → List WorkerShown → List WorkerShown
with_seats [] workers = []
with_seats (seat ∷ seats) [] = []
with_seats (seat ∷ seats) (w ∷ workers) = record w { seat = seat } ∷ with_seats seats workers

-- all that a worker shows but its seat
abbrev pub but_seat : WorkerShown → WorkerShown
but_seat w = record w { seat = fresh_seat 0 0 0 }
