-- What a run begins with: the tokens of a fresh table, dealt to the workers of a trace.
use Rattle.std.specs.Prelude.{ℕ, ◌≡◌, ◌+◌, ◌-◌, ◌≤◌, List, [], map}
use Rattle.std.specs.List.{range_with_len}
use Rattle.tag_model.specs.declared.shape.Shape.{Shape}
use Rattle.tag_model.specs.declared.state.Sweep.TheVariants as sweep
use Rattle.tag_rule.specs.Made.{fresh_seats, fresh_vectors, pages_of}
use Rattle.tag_rule.specs.Shown.{Board, PoolShown}
use Rattle.tag_section.specs.Section.{Section}
use Rattle.reclaim.specs.State.{LockedShown}
use Rattle.trace.specs.declared.traces.Trace.{Trace}
use Rattle.trace_play.specs.Machine.{fresh_seat}
use Rattle.round_worker.specs.Shown.{WorkerShown}
use Rattle.plant.specs.declared.starting.Started.{Started}

-- ---- tokens of each CPU

-- the page cells of so many CPUs from one on, and the cells of their vectors
abbrev pub pages_from : Board → ℕ → ℕ → List PoolShown
pages_from b cpu count = map (pages_of b) (range_with_len cpu count)

abbrev pub vectors_from : Board → ℕ → ℕ → List (List PoolShown)
vectors_from b cpu count = map (fresh_vectors b) (range_with_len cpu count)

-- ---- workers

-- a CPU's worker that has done nothing yet
abbrev pub fresh_worker : Board → ℕ → ℕ → ℕ → WorkerShown
fresh_worker b frames vectors cpu = record { board = b; cpu = cpu; seat = fresh_seat frames vectors cpu; live = []; entries = []; failed = 0; uncounted = 0 }

abbrev pub fresh_workers : Board → ℕ → ℕ → ℕ → List WorkerShown
fresh_workers b frames vectors count = map (fresh_worker b frames vectors) (range_with_len 0 count)

-- ---- all of it

-- the shape has room for the trace
pub record FitsShape (k : Shape) (trace : Trace) : Type 0 where
  pub kernel : k.kernel_tags ≡ 128
  pub area : 128 + trace.area ≤ k.tags
  pub cpus : trace.cpus ≤ k.cpus
  pub frames : trace.frames ≤ k.frames
  pub vectors : trace.vectors ≤ k.vectors

-- the list of modules before any was loaded
abbrev pub fresh_locked : Board → ℕ → List Section → LockedShown
fresh_locked b area sections = record { board = b; area = record { entries = []; first = 128; tags = area }; sections = sections; sweep = sweep.None; stops = []; reads = 0 }

-- a run of the trace begins: all CPUs, a worker for each of the trace's, the list, the next id, and the pools that no worker has
pub record IsStarted (k : Shape) (trace : Trace) (sections : List Section) (s : Started) : Type 0 where
  pub board : Board
  pub shape : board.shape ≡ k
  pub cpus : s.cpus.items ≡ fresh_seats board
  pub workers : s.workers.items ≡ fresh_workers board trace.frames trace.vectors trace.cpus
  pub locked : s.locked ≡ fresh_locked board trace.area sections
  pub pass : s.pass ≡ record { board = board; next = 1 }
  pub pages : s.pages.items ≡ pages_from board trace.cpus (k.cpus - trace.cpus)
  pub vectors : map (λ v. v.items) s.vectors.items ≡ vectors_from board trace.cpus (k.cpus - trace.cpus)
