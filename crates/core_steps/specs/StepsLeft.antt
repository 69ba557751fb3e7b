-- How many steps an actor's ops have left.
use Rattle.std.specs.Prelude.{ℕ, ◌+◌, ◌-◌, ◌*◌, Bool, if◌then◌else◌, List, [], ◌∷◌, length, sum_by}
use Rattle.tag_model.specs.declared.shape.Shape.{Shape}
use Rattle.core_list.specs.ListState.{ListState, sweep_steps, most_steps}
use Rattle.module_ops.specs.declared.op.ManagerOp.{ManagerOp}
use Rattle.core_steps.specs.declared.op.Actor.{Actor}
use Rattle.core_steps.specs.declared.op.Actor.TheVariants as actor
use Rattle.cpu_ops.specs.Machine.{Machine, waiting_at, step_count}
use Rattle.module_ops.specs.Modules.{ModuleTable}
use Rattle.core_steps.specs.CoreState.{CoreState}

-- of a CPU: the steps of its ops, but for those of the first that are done
abbrev pub cpu_steps_left : Machine → ℕ → ℕ
cpu_steps_left m cpu = let w = waiting_at m cpu in sum_by step_count w.ops - w.done

-- an op of the manager has its first step, and then at most those of a sweep
abbrev pub most_of_ops : Shape → List ManagerOp → ℕ
most_of_ops k ops = length ops * (1 + most_steps k)

abbrev pub most_left : Shape → ListState → List ManagerOp → Bool → ℕ
most_left k list [] under_way = 0
most_left k list (op ∷ ops) under_way = if under_way then sweep_steps k list + most_of_ops k ops else most_of_ops k (op ∷ ops)

-- of the manager: at most so many
abbrev pub manager_steps_left : Shape → ModuleTable → ℕ
manager_steps_left k ms = most_left k ms.list ms.manager.ops ms.manager.under_way

abbrev pub steps_left : CoreState → Actor → ℕ
steps_left s (actor.Cpu cpu) = cpu_steps_left s.machine cpu
steps_left s actor.Manager = manager_steps_left s.shape s.modules
