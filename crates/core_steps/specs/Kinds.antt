-- Which step each `go` is: each op is a list of kinds of steps, in their order.
use Rattle.std.specs.Prelude.{◌≡◌, ℕ, ◌-◌, Bool, if◌then◌else◌, Option, Some, None, List, [], ◌∷◌, ◌++◌, replicate, slice_get}
use Rattle.tag_model.specs.declared.shape.Shape.{Shape}
use Rattle.tag_model.specs.declared.state.Kind.{Kind}
use Rattle.tag_model.specs.declared.state.Kind.TheVariants.{Bytes, Calls}
use Rattle.tag_model.specs.declared.state.Part.{Part}
use Rattle.tag_model.specs.declared.state.Sweep.{Sweep}
use Rattle.tag_model.specs.Histories.{reads_calls}
use Rattle.tag_model.specs.StepRules.{Row, Steps, EntersCpu, LeavesCpu}
use Rattle.core_list.specs.declared.list.Next.{Next}
use Rattle.core_list.specs.declared.list.Next.TheVariants as next
use Rattle.core_list.specs.ListState.{next_of}
use Rattle.cpu_ops.specs.declared.op.CpuOp.{CpuOp}
use Rattle.cpu_ops.specs.declared.op.CpuOp.TheVariants as op
use Rattle.cpu_ops.specs.Machine.{waiting_at}
use Rattle.module_ops.specs.declared.op.ManagerOp.{ManagerOp}
use Rattle.module_ops.specs.declared.op.ManagerOp.TheVariants as manager
use Rattle.core_steps.specs.declared.op.Actor.{Actor}
use Rattle.core_steps.specs.declared.op.Actor.TheVariants as actor
use Rattle.core_steps.specs.CoreState.{CoreState, refused, stepped}

pub data StepKind : Type 0 where
  AddCall : StepKind
  AddBytes : StepKind
  SubBytes : StepKind
  SubCall : StepKind
  WriteCell : StepKind
  ScanByte : StepKind
  ScanCall : StepKind
  -- changes of the module list
  Load : StepKind
  Enter : StepKind
  Leave : StepKind
  MarkDead : StepKind
  BeginSweep : StepKind
  Release : StepKind

-- ---- the table of the ops

-- the steps of a CPU's op
abbrev pub steps_of : CpuOp → List StepKind
steps_of (op.Open key section index size) = AddCall ∷ AddBytes ∷ WriteCell ∷ []
steps_of (op.Close key) = WriteCell ∷ SubBytes ∷ SubCall ∷ []
steps_of (op.Split key parts first) = WriteCell ∷ (replicate (parts - 1) AddCall ++ replicate parts WriteCell)
steps_of (op.Swap one two) = WriteCell ∷ WriteCell ∷ WriteCell ∷ []
steps_of (op.Trim key bytes) = WriteCell ∷ SubBytes ∷ WriteCell ∷ []
steps_of (op.Enter section) = Enter ∷ []
steps_of (op.Leave section) = Leave ∷ []

-- the first step of an op of the manager; a load has no other
abbrev pub first_of : ManagerOp → StepKind
first_of (manager.Load section) = Load
first_of (manager.Unload section) = MarkDead
first_of manager.Clean = BeginSweep

abbrev pub scan_of : Kind → StepKind
scan_of Bytes = ScanByte
scan_of Calls = ScanCall

-- the further steps of an unload and a clean
abbrev pub sweep_step : Next → Option StepKind
sweep_step next.Nothing = None
sweep_step (next.Read r) = Some (scan_of r.pass)
sweep_step (next.Release id) = Some Release

-- ---- the next step of an actor

abbrev pub kind_in : List CpuOp → ℕ → Option StepKind
kind_in [] done = None
kind_in (first ∷ ops) done = slice_get (steps_of first) done

abbrev pub manager_kind : List ManagerOp → Bool → Next → Option StepKind
manager_kind [] under_way goes = None
manager_kind (first ∷ ops) under_way goes = if under_way then sweep_step goes else Some (first_of first)

abbrev pub kind_of : CoreState → Actor → Option StepKind
kind_of s (actor.Cpu cpu) = let w = waiting_at s.machine cpu in kind_in w.ops w.done
kind_of s actor.Manager = manager_kind s.modules.manager.ops s.modules.manager.under_way (next_of s.modules.list.sweep)

-- ---- the kind of a row of the step rules

abbrev pub row_kind : {k : Shape} {v w : List Part} → Row k v w → StepKind
row_kind (Row.begins_allocation row) = AddCall
row_kind (Row.adds_call row) = AddCall
row_kind (Row.adds_bytes row) = AddBytes
row_kind (Row.subtracts_bytes row) = SubBytes
row_kind (Row.subtracts_call row) = SubCall
row_kind (Row.writes_place row) = WriteCell
row_kind (Row.scans {left} {r} {cpu} {old} {new} row) = scan_of r.pass
row_kind (Row.loads row) = Load
row_kind (Row.enters row) = Enter
row_kind (Row.leaves row) = Leave
row_kind (Row.marks_dead row) = MarkDead
row_kind (Row.sweeps row) = BeginSweep
row_kind (Row.releases row) = Release

-- a row of this kind leads on, with the base move that goes with an enter and with a leave
pub data GoesAs (k : Shape) (kind : StepKind) (old new : List Part) : Type 0 where
  alone : (steps : Steps k old new) → row_kind steps.row ≡ kind → GoesAs k kind old new
  enters_cpu : EntersCpu old new → kind ≡ Enter → GoesAs k kind old new
  leaves_cpu : LeavesCpu old new → kind ≡ Leave → GoesAs k kind old new

-- ---- which pass of a sweep a step begins

-- that of bytes where a sweep begins; that of calls where the sweep reads calls after a read of bytes
abbrev pub begins_as : Option StepKind → Sweep → Option Kind
begins_as (Some MarkDead) after = Some Bytes
begins_as (Some BeginSweep) after = Some Bytes
begins_as (Some ScanByte) after = if reads_calls after then Some Calls else None
begins_as other after = None

abbrev pub pass_begun : CoreState → Actor → Option Kind
pass_begun s who = begins_as (kind_of s who) (stepped s who).modules.list.sweep

-- each of the actors takes a step, and none of these begins a pass
abbrev pub GoesOn : CoreState → List Actor → Type 0
GoesOn s [] = Unit {0}
GoesOn s (who ∷ later) = (refused s who ≡ None) × (pass_begun s who ≡ None) × GoesOn (stepped s who) later
