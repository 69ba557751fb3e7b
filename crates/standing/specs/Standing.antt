-- What a run stands on between two items of a trace: the table's CPUs, a worker for each of the trace's, the keys, the
-- module list and the next id, as the meaning's machine has them.
use Rattle.std.specs.Prelude.{ℕ, ◌≡◌, ◌+◌, ◌*◌, Option, None, Ok, List, [], All, length, map, replicate, sum_by}
use Rattle.std.specs.List.{range_with_len}
use Rattle.tag_model.specs.RefMoves.{words_after_moves}
use Rattle.tag_section.specs.Section.{Section}
use Rattle.tag_rule.specs.Shown.{Board, CpuShown, PassShown}
use Rattle.plant.specs.Fresh.{FitsShape}
use Rattle.reclaim.specs.State.{LockedShown}
use Rattle.round_modules.specs.Inside.{outside}
use Rattle.round_check.specs.Rounds.{IsRound}
use Rattle.round_check.specs.Walk.{rounds_of, walk_ops}
use Rattle.round_check.specs.declared.walk.Walk.{Walk}
use Rattle.round_worker.specs.Kept.{KeyList, live_of}
use Rattle.round_worker.specs.Parting.{AreKept}
use Rattle.round_worker.specs.Shown.{WorkerShown}
use Rattle.trace.specs.Formed.{IsFormedTrace}
use Rattle.trace.specs.declared.traces.OnOp.{OnOp}
use Rattle.trace.specs.declared.traces.Trace.{Trace}
use Rattle.trace_play.specs.Machine.{Machine}
use Rattle.trace_play.specs.Play.{played_so_far}

-- ---- between items

-- a CPU whose words are what the moves make of words of 0; it is inside no module
abbrev pub standing_cpu : Board → Machine → ℕ → CpuShown
standing_cpu b m n = record { board = b; part = record { number = n; words = words_after_moves n (replicate (2 * b.shape.tags) 0) m.tally.moves; hand = None; runs = []; notes = [] } }

-- all CPUs of the table are so, their notes aside, and whichever modules they are inside
abbrev pub CpusStand : Board → Machine → List CpuShown → Type 0
CpusStand b m cpus = map outside cpus ≡ map (standing_cpu b m) (range_with_len 0 b.shape.cpus)

-- each CPU of the trace has a worker with its seat; what they counted, added, is what the machine counted
pub record WorkersStand (b : Board) (m : Machine) (workers : List WorkerShown) : Type 0 where
  pub seats : map (λ (w : WorkerShown). w.seat) workers ≡ m.seats
  pub boards : All (λ (w : WorkerShown). w.board ≡ b) workers
  pub numbers : map (λ (w : WorkerShown). w.cpu) workers ≡ range_with_len 0 (length m.seats)
  pub failed : sum_by (λ (w : WorkerShown). w.failed) workers ≡ m.tally.failed
  pub uncounted : sum_by (λ (w : WorkerShown). w.uncounted) workers ≡ m.tally.uncounted

-- the store has what the keys are bound to
pub record KeysStand (b : Board) (m : Machine) (keys : KeyList) : Type 0 where
  pub live : live_of keys ≡ m.live
  pub kept : AreKept b keys

-- the module list has the machine's entries, and the next id is the one above the last
pub record ListStands (b : Board) (m : Machine) (sections : List Section) (l : LockedShown) (pass : PassShown) : Type 0 where
  pub board : l.board ≡ b
  pub area : l.area ≡ m.area
  pub sections_are : l.sections ≡ sections
  pub next : pass ≡ record { board = b; next = m.last_id + 1 }

-- the table's shape has room for the trace
abbrev pub HasRoomFor : Board → Trace → Type 0
HasRoomFor b trace = FitsShape b.shape trace

-- ---- a round

-- a round of a checked trace, where no `load` before it was refused
pub record RoundOf (trace : Trace) (top : Option ℕ) (ops : List OnOp) : Type 0 where
  pub before : Walk
  pub after : Walk
  pub formed : IsFormedTrace trace
  pub passes : rounds_of trace ≡ Ok tt
  pub round : IsRound trace ops before
  pub none : (played_so_far trace top round.front).refused ≡ None
  pub walked : walk_ops ops before ≡ Ok after

-- the machine as it begins
abbrev pub first_of : (trace : Trace) (top : Option ℕ) (ops : List OnOp) → RoundOf trace top ops → Machine
first_of trace top ops r = (played_so_far trace top r.round.front).played.machine
