-- What a run of a trace begins with, and what it leaves of a plant.
use Rattle.std.specs.Prelude.{ℕ, ◌≡◌, ◌<◌, ⊤, false, Some, Result, Ok, Err, length, slice_get}
use Rattle.tag_model.specs.declared.shape.Shape.{Shape}
use Rattle.tag_model.specs.declared.state.Kind.TheVariants.{Bytes, Calls}
use Rattle.tag_model.specs.Moves.{moved_word}
use Rattle.tag_rule.specs.Shown.{Board, CpuShown}
use Rattle.plant.specs.Table.{PlantShown, cells_of, tag_words}
use Rattle.trace.specs.declared.traces.Trace.{Trace}
use Rattle.trace_play.specs.Machine.{Machine, live_cells, machine_of}
use Rattle.rounds.specs.Places.{IsThere, Place}
use Rattle.rounds.specs.Turns.{StandsAt}
use Rattle.rounds.specs.declared.desk.Desk.{Desk}
use Rattle.trace_run.specs.declared.running.RunError.{RunError}
use Rattle.trace_run.specs.declared.running.RunError.TheVariants as error

-- a desk of a table of the shape, as the trace begins
pub record IsBegun (k : Shape) (trace : Trace) (d : Desk) : Type 0 where
  pub board : Board
  pub shape : board.shape ≡ k
  pub stands : StandsAt board trace (machine_of trace) d

-- a desk of a table of the shape, at some place of a trace
pub record IsEnded (k : Shape) (d : Desk) : Type 0 where
  pub place : Place
  pub there : IsThere place d
  pub shape : place.board.shape ≡ k

-- A plant behind a run that came to this machine: no run can begin with it, each CPU's words are what its own moves give,
-- and its cells hold the live list's references.
pub record HasRun (m : Machine) (old new : PlantShown) : Type 0 where
  pub shape : new.shape ≡ old.shape
  pub used : new.fresh ≡ false
  pub count : length new.cpus ≡ old.shape.cpus
  pub words : (cpu tag : ℕ) (c : CpuShown) → slice_get new.cpus cpu ≡ Some c → tag < old.shape.tags → tag_words tag c ≡ (moved_word m.tally.moves cpu Bytes tag, moved_word m.tally.moves cpu Calls tag)
  pub cells : cells_of new ≡ live_cells m

-- the answer isn't want of memory
abbrev pub IsRun : Result ⊤ RunError → Type 0
IsRun (Ok done) = ⊤
IsRun (Err (error.Refused line code)) = ⊤
IsRun (Err (error.Memory want)) = ⊥
