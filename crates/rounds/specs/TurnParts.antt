-- What a round's lanes take and leave: the trace's workers and the table's CPUs.
use Rattle.std.specs.Prelude.{◌≡◌, List}
use Rattle.tag_rule.specs.Shown.{CpuShown}
use Rattle.plant.specs.Fresh.{FitsShape}
use Rattle.lanes.specs.Lanes.{lanes_of}
use Rattle.round_modules.specs.Inside.{AreInside}
use Rattle.round_modules.specs.Known.{runs_of}
use Rattle.round_worker.specs.Shown.{WorkerShown}
use Rattle.trace.specs.declared.traces.OnOp.{OnOp}
use Rattle.trace_play.specs.Fits.{is_owner}
use Rattle.standing.specs.Standing.{CpusStand, WorkersStand}
use Rattle.standing.specs.Turning.{AreSameButWords, LivesAre, dealt, home_of_round}
use Rattle.rounds.specs.Turns.{Turn, first, known_in}

-- as the lanes begin
pub record AreDealt (t : Turn) (lanes : List (List OnOp)) (workers : List WorkerShown) (cpus : List CpuShown) : Type 0 where
  pub room : FitsShape t.board.shape t.trace
  pub inside : AreInside t.trace.cpus (runs_of (known_in t)) cpus
  pub lanes_are : lanes ≡ lanes_of t.trace.cpus t.ops
  pub stand : CpusStand t.board (first t) cpus
  pub were : List WorkerShown
  pub stood : WorkersStand t.board (first t) were
  pub workers_are : workers ≡ dealt t.ops (first t) were

-- some round's lanes begin
pub record SomeDealt (lanes : List (List OnOp)) (workers : List WorkerShown) (cpus : List CpuShown) : Type 0 where
  pub turn : Turn
  pub is : AreDealt turn lanes workers cpus

-- as the lanes and the storage that came home leave the workers, and the CPUs from what they were
pub record AreTurned (t : Turn) (left : List WorkerShown) (cpus after : List CpuShown) : Type 0 where
  pub workers : WorkersStand t.board (home_of_round t.ops (first t)) left
  pub lives : LivesAre (is_owner t.round.after) t.ops (first t) left
  pub stand : CpusStand t.board (home_of_round t.ops (first t)) after
  pub same : AreSameButWords cpus after
