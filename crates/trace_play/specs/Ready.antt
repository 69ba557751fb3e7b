-- What a round of a checked trace is ready for, as it begins.
use Rattle.std.specs.Prelude.{ℕ, ◌≡◌, ◌<◌, ◌==◌, ◌&&◌, ◌||◌, Bool, true, false, IsTrue, IsSome, List, [], ◌∷◌, ◌++◌, length}
use Rattle.std.specs.List.{find, list_all, list_any}
use Rattle.tag_model.specs.declared.state.Tag.{Tag}
use Rattle.module_area.specs.declared.entry.Entry.{Entry}
use Rattle.module_area.specs.Entries.{is_loaded_as}
use Rattle.trace.specs.declared.traces.OnOp.{OnOp}
use Rattle.trace.specs.declared.traces.Trace.{Trace}
use Rattle.trace.specs.declared.traces.TraceOp.{TraceOp}
use Rattle.trace.specs.declared.traces.TraceOp.TheVariants as op
use Rattle.round_check.specs.declared.walk.Walk.{Walk}
use Rattle.round_check.specs.CpuState.{CpuState}
use Rattle.round_check.specs.Cpus.{cpu_at, is_inside}
use Rattle.trace_play.specs.Worker.{tag_in}
use Rattle.trace_play.specs.Machine.{Machine, seat_at, worker_at}
use Rattle.trace_play.specs.Barrier.{ops_of}
use Rattle.trace_play.specs.Alone.{alone}
use Rattle.trace_play.specs.Fits.{is_owner}
use Rattle.trace_play.specs.Fitting.{Fit}
use Rattle.trace_play.specs.Play.{section_len}

-- whether the op enters the module of the section
abbrev pub enters : ℕ → TraceOp → Bool
enters section (op.Enter other) = other == section
enters section (op.Page key order) = false
enters section (op.Kmalloc key size) = false
enters section (op.Free key) = false
enters section (op.Split key order first) = false
enters section (op.Swap one two) = false
enters section (op.Trim key pages) = false
enters section (op.Hook other index) = false
enters section op.Unhook = false
enters section (op.Leave other) = false
enters section (op.Unload other) = false

-- whether the CPU is inside the module at some moment of the round: as it begins, or once one of its ops has entered it
abbrev pub runs_inside : Walk → List OnOp → ℕ → ℕ → Bool
runs_inside before ops cpu section = is_inside section (cpu_at before.cpus cpu) || list_any (λ on. (on.cpu == cpu) && enters section on.op) ops

-- the CPU may count under the kernel's tags, and under those of the modules that it is inside at some moment of the round
abbrev pub MayCount : Trace → List Entry → Walk → List OnOp → ℕ → (Tag → Bool) → Type 0
MayCount trace entries before ops cpu may_count =
    (section index : ℕ) → ((section == 0) || runs_inside before ops cpu section) ≡ true → index < section_len trace section → IsTrue (may_count (tag_in entries section index))

-- a hook that is out: its tag is one of its section, the kernel's or that of a module that the CPU is inside
pub record IsHook (trace : Trace) (entries : List Entry) (state : CpuState) (section : ℕ) (tag : Tag) : Type 0 where
  pub index : ℕ
  pub low : index < section_len trace section
  pub is : tag ≡ tag_in entries section index
  pub may : ((section == 0) || is_inside section state) ≡ true

-- the sections of the hooks that are out, the last one at the end, and their tags, the last one first
pub data HooksAre (Hook : ℕ → Tag → Type 0) : List ℕ → List Tag → Type 0 where
  none_out : HooksAre Hook [] []
  one_more : (sections : List ℕ) (tags : List Tag) (section : ℕ) (tag : Tag) → Hook section tag → HooksAre Hook sections tags → HooksAre Hook (sections ++ section ∷ []) (tag ∷ tags)

-- A round of a checked trace, as it begins. A module that a CPU is inside at some moment of it is loaded. The tags of the
-- hooks that are out, and all that the ops of a CPU need, may be counted where those of its modules may.
pub record IsReady (trace : Trace) (ops : List OnOp) (before after : Walk) (m : Machine) : Type 0 where
  pub loaded : (cpu section : ℕ) → runs_inside before ops cpu section ≡ true → IsSome (find (is_loaded_as section) m.area.entries)
  pub hooks : (cpu : ℕ) (may_count : Tag → Bool) → cpu < length m.seats → MayCount trace m.area.entries before ops cpu may_count → list_all may_count (seat_at cpu m).hooks ≡ true
  pub needs : (cpu : ℕ) (may_count : Tag → Bool) → cpu < length m.seats → MayCount trace m.area.entries before ops cpu may_count
      → Fit may_count m.area.entries (ops_of cpu ops) (alone (is_owner after cpu) (worker_at cpu m))
