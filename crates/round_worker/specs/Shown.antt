-- What a worker shows, what holds of each, and what ops make of it.
use Rattle.std.specs.Prelude.{ℕ, ◌≡◌, ◌+◌, Bool, IsTrue, None, List}
use Rattle.std.specs.List.{list_all}
use Rattle.tag_model.specs.declared.state.Tag.{Tag}
use Rattle.tag_model.specs.StepRules.{may_begin}
use Rattle.tag_rule.specs.Shown.{Board, CpuShown}
use Rattle.tag_ref.specs.Refs.{moved_by}
use Rattle.module_area.specs.declared.entry.Entry.{Entry}
use Rattle.trace_play.specs.Live.{Live}
use Rattle.trace_play.specs.Machine.{nothing_done}
use Rattle.trace_play.specs.Worker.{Seat, WorkerState}

-- a worker with the table of its cells and its CPU, the modules that it knows, and how many of its allocations found no frames and how many objects had no cell
pub record WorkerShown : Type 0 where
  pub board : Board
  pub cpu : ℕ
  pub seat : Seat
  pub live : Live
  pub entries : List Entry
  pub failed : ℕ
  pub uncounted : ℕ

-- the worker of the meaning, as it begins a round: nothing is done yet
abbrev pub at_start : WorkerShown → WorkerState
at_start w = record { seat = w.seat; live = w.live; tally = nothing_done }

-- the worker once the meaning left this
abbrev pub with_state : WorkerState → WorkerShown → WorkerShown
with_state s w = record w { seat = s.seat; live = s.live; failed = w.failed + s.tally.failed; uncounted = w.uncounted + s.tally.uncounted }

-- the worker and the CPU's words are as the meaning leaves them
pub record Leaves (state : WorkerState) (old new : WorkerShown) (cpu cpu_after : CpuShown) : Type 0 where
  pub worker : new ≡ with_state state old
  pub moves : cpu_after ≡ moved_by state.tally.moves cpu

-- the CPU may count under the tag
abbrev pub may_count : CpuShown → Tag → Bool
may_count cpu tag = may_begin cpu.board.shape tag cpu.part.runs

-- worker and CPU belong together, and there is no hand
pub record Beside (w : WorkerShown) (seat : CpuShown) : Type 0 where
  pub table : w.board ≡ seat.board
  pub own : w.cpu ≡ seat.part.number
  pub hand : seat.part.hand ≡ None

-- the same, and the CPU may count under each hook
pub record Ready (w : WorkerShown) (seat : CpuShown) : Type 0 where
  pub table : w.board ≡ seat.board
  pub own : w.cpu ≡ seat.part.number
  pub hand : seat.part.hand ≡ None
  pub allowed : IsTrue (list_all (may_count seat) w.seat.hooks)
