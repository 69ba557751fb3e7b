-- What a step leaves to the other actors, and what holds where no actor has an op.
use Rattle.std.proofs.Common.{◌≡◌, ◌≢◌, ℕ, ◌<◌, List, [], ◌∷◌, refl, ap, subst, Option, Some, None, Bool, true, false}
use Rattle.std.proofs.lemmas.List.{get_or-set_other}
use Rattle.tag_model.specs.declared.state.Run.{Run}
use Rattle.module_area.specs.declared.entry.Entry.{Entry}
use Rattle.core_list.specs.ListState.{loaded_entry}
use Rattle.cpu_ops.specs.declared.op.CpuOp.{CpuOp}
use Rattle.cpu_ops.specs.declared.step.WordStep.{WordStep}
use Rattle.cpu_ops.specs.declared.step.WordStep.TheVariants.{BeginAllocation, AddBytes, AddCall, SubtractBytes, SubtractCall, Write, GoIn, GoOut}
use Rattle.cpu_ops.specs.Machine.{Machine, advanced, hand_at, nothing_waits, run_at, step_of, stepped_by, waiting_at}
use Rattle.module_ops.specs.Modules.{ModuleTable, goes_in, goes_out, inside_at, modules_after, scene_at}
use Rattle.core_steps.specs.declared.op.Actor.{Actor}
use Rattle.core_steps.specs.declared.op.Actor.TheVariants as actor
use Rattle.core_steps.specs.CoreState.{CoreState, IsCore, IsReady, modules_stepped, refused, stepped}
use Rattle.core_steps.specs.Laws.{IsIdle, SameQueue, waits_for}
use Rattle.core_steps.proofs.Queued.{cpu_none, manager_none}
use Rattle.core_steps.proofs.Steps.{free_in, later_free}

in_keeps : (ms : ModuleTable) (cpu section : ℕ) (o : Option Entry) → (goes_in ms cpu section o).manager ≡ ms.manager
in_keeps ms cpu section None = refl
in_keeps ms cpu section (Some e) = refl

out_keeps : (ms : ModuleTable) (cpu section : ℕ) (o : Option Run) → (goes_out ms cpu section o).manager ≡ ms.manager
out_keeps ms cpu section None = refl
out_keeps ms cpu section (Some r) = refl

step_keeps : (ms : ModuleTable) (cpu : ℕ) (step : WordStep) → (modules_after step ms cpu).manager ≡ ms.manager
step_keeps ms cpu (BeginAllocation tag) = refl
step_keeps ms cpu (AddBytes size) = refl
step_keeps ms cpu AddCall = refl
step_keeps ms cpu (SubtractBytes bytes) = refl
step_keeps ms cpu SubtractCall = refl
step_keeps ms cpu (Write key held next) = refl
step_keeps ms cpu (GoIn section) = in_keeps ms cpu section (loaded_entry section ms.list)
step_keeps ms cpu (GoOut section) = out_keeps ms cpu section (run_at (inside_at ms cpu) section)

manager_kept : (m : Machine) (ms : ModuleTable) (cpu : ℕ) (ops : List CpuOp) (done : ℕ) → (modules_stepped m ms cpu ops done).manager ≡ ms.manager
manager_kept m ms cpu [] done = refl
manager_kept m ms cpu (op ∷ ops) done = step_keeps ms cpu (step_of op done (hand_at m cpu) m.places (inside_at ms cpu))

waiting_kept : (m : Machine) (inside : List (Option Run)) (cpu other : ℕ) (ops : List CpuOp) (done : ℕ) → other ≢ cpu → waiting_at (stepped_by m inside cpu ops done) other ≡ waiting_at m other
waiting_kept m inside cpu other [] done ne = refl
waiting_kept m inside cpu other (op ∷ ops) done ne = get_or-set_other m.waiting cpu other (advanced (op ∷ ops) done) nothing_waits ne

pub others_kept : (s : CoreState) (who other : Actor) → other ≢ who → SameQueue s (stepped s who) other
others_kept s (actor.Cpu cpu) (actor.Cpu other) ne =
    waiting_kept s.machine (inside_at s.modules cpu) cpu other (waiting_at s.machine cpu).ops (waiting_at s.machine cpu).done (λ e. ne (ap (λ (n : ℕ). actor.Cpu n) e))
others_kept s (actor.Cpu cpu) actor.Manager ne = manager_kept s.machine s.modules cpu (waiting_at s.machine cpu).ops (waiting_at s.machine cpu).done
others_kept s actor.Manager (actor.Cpu other) ne = refl
others_kept s actor.Manager actor.Manager ne = absurd (ne refl)

pub under_way_free : (s : CoreState) (cpu done : ℕ) (op : CpuOp) (ops : List CpuOp) → waiting_at s.machine cpu ≡ waits_for op ops done → done ≢ 0 → refused s (actor.Cpu cpu) ≡ None
under_way_free s cpu done op ops waits later = free_in s.machine (scene_at s.modules cpu) cpu op ops done waits (later_free s.machine (scene_at s.modules cpu) op ops done later)

-- where no op waits, nothing is in hand
pub idle_hand : (s : CoreState) (cpu : ℕ) → IsCore s → IsIdle s → cpu < s.shape.cpus → hand_at s.machine cpu ≡ None
idle_hand s cpu core idle below =
    (subst (λ (ops : List CpuOp). IsReady s.sections s.machine.places (hand_at s.machine cpu) ops (waiting_at s.machine cpu).done) (cpu_none (waiting_at s.machine cpu).ops (idle (actor.Cpu cpu) below)) (core.machine.ready cpu below)).0

-- nor is an op of the manager under way
pub idle_manager : (s : CoreState) → IsCore s → IsIdle s → s.modules.manager.under_way ≡ false
idle_manager s core idle = go s.modules.manager.under_way refl
  where
    go : (way : Bool) → s.modules.manager.under_way ≡ way → way ≡ false
    go false is = refl
    go true is = absurd (core.modules.some_op is (manager_none s.modules.manager.ops (idle actor.Manager tt)))
