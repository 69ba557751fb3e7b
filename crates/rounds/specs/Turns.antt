-- A desk between two items of a trace, and through a round.
use Rattle.std.specs.Prelude.{ℕ, ◌≡◌, ◌+◌, Option, List, [], All, map, not}
use Rattle.std.specs.Arc.{arc_value}
use Rattle.tag_rule.specs.Shown.{Board, CpuShown}
use Rattle.module_area.specs.declared.entry.Entry.{Entry}
use Rattle.plant.specs.Fresh.{FitsShape}
use Rattle.lanes.specs.Lanes.{lanes_of}
use Rattle.round_keys.specs.Handed.{is_handed}
use Rattle.round_modules.specs.Inside.{AreInside, AreNoted}
use Rattle.round_modules.specs.Known.{runs_of, unloaded_by}
use Rattle.round_worker.specs.Kept.{live_of}
use Rattle.round_worker.specs.Parting.{AreKept}
use Rattle.round_worker.specs.Shown.{WorkerShown}
use Rattle.trace.specs.declared.traces.OnOp.{OnOp}
use Rattle.trace.specs.declared.traces.Trace.{Trace}
use Rattle.trace_play.specs.Alone.{kept}
use Rattle.trace_play.specs.Fits.{is_owner}
use Rattle.trace_play.specs.Machine.{Machine}
use Rattle.standing.specs.Standing.{CpusStand, KeysStand, ListStands, RoundOf, WorkersStand, first_of}
use Rattle.standing.specs.Turning.{LivesAre, dealt, home_of_round}
use Rattle.rounds.specs.declared.desk.Desk.{Desk}
use Rattle.rounds.specs.declared.dealing.Dealt.{Dealt}
use Rattle.rounds.specs.declared.turning.Turned.{Turned}

-- the desk is as the machine
pub record StandsAt (b : Board) (trace : Trace) (m : Machine) (d : Desk) : Type 0 where
  pub room : FitsShape b.shape trace
  pub cpus : CpusStand b m d.cpus.items
  pub outside : All (λ (c : CpuShown). c.part.runs ≡ []) d.cpus.items
  pub workers : WorkersStand b m d.workers.items
  pub none : All (λ (w : WorkerShown). w.live ≡ []) d.workers.items
  pub keys : KeysStand b m d.keys
  pub list : ListStands b m trace.sections d.locked d.pass
  pub sections_are : arc_value d.sections ≡ trace.sections
  pub tags_are : d.tags ≡ trace.area

-- ---- through a round

-- a round of a checked trace, on a table
pub record Turn : Type 0 where
  pub ops : List OnOp
  pub board : Board
  pub trace : Trace
  pub top : Option ℕ
  pub round : RoundOf trace top ops

-- the machine as it begins
abbrev pub first : Turn → Machine
first t = first_of t.trace t.top t.ops t.round

-- the modules as it leaves them
abbrev pub known_in : Turn → List Entry
known_in t = unloaded_by t.ops (first t).area.entries

-- before it
abbrev pub IsFirst : Turn → Desk → Type 0
IsFirst t d = StandsAt t.board t.trace (first t) d

-- what isn't changed by the lanes
pub record IsBeside (t : Turn) (d : Desk) : Type 0 where
  pub room : FitsShape t.board.shape t.trace
  pub inside : AreInside t.trace.cpus (runs_of (known_in t)) d.cpus.items
  pub noted : AreNoted (known_in t) d.cpus.items
  pub keys : live_of d.keys ≡ kept (λ key. not (is_handed t.ops key)) (first t).live
  pub own : AreKept t.board d.keys
  pub list : d.locked.board ≡ t.board
  pub next : d.pass ≡ record { board = t.board; next = (first t).last_id + 1 }
  pub sections_are : arc_value d.sections ≡ t.trace.sections
  pub tags_are : d.tags ≡ t.trace.area

-- once its keys are dealt and its CPUs are inside the modules that stay loaded
pub record IsDealt (t : Turn) (d : Dealt) : Type 0 where
  pub beside : IsBeside t d.desk
  pub lanes_are : map (λ lane. lane.items) d.lanes.items ≡ lanes_of t.trace.cpus t.ops
  pub known_is : d.known.items ≡ known_in t
  pub cpus : CpusStand t.board (first t) d.desk.cpus.items
  pub were : List WorkerShown
  pub stood : WorkersStand t.board (first t) were
  pub workers : d.desk.workers.items ≡ dealt t.ops (first t) were

-- once its lanes are done and storage is home
pub record IsTurned (t : Turn) (d : Turned) : Type 0 where
  pub beside : IsBeside t d.desk
  pub known_is : d.known.items ≡ known_in t
  pub cpus : CpusStand t.board (home_of_round t.ops (first t)) d.desk.cpus.items
  pub workers : WorkersStand t.board (home_of_round t.ops (first t)) d.desk.workers.items
  pub lives : LivesAre (is_owner t.round.after) t.ops (first t) d.desk.workers.items

-- some round is at this point
pub record IsAt {D : Type 0} (Is : Turn → D → Type 0) (d : D) : Type 0 where
  pub turn : Turn
  pub is : Is turn d

-- a round with these ops begins
pub record Begins (ops : List OnOp) (d : Desk) : Type 0 where
  pub turn : Turn
  pub ops_are : turn.ops ≡ ops
  pub is : IsFirst turn d
