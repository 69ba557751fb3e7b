-- A sweep that reads on takes steps of the manager, as many as it reads words.
use Rattle.std.proofs.Common.{◌≡◌, ℕ, zero, suc, ◌+◌, ◌<◌, ◌≤◌, refl, arith}
use Rattle.module_ops.specs.Modules.{TellNothing, managed_times}
use Rattle.core_steps.specs.declared.op.Actor.TheVariants as actor
use Rattle.core_steps.specs.CoreState.{CoreState, IsCore, stepped}
use Rattle.core_steps.specs.ReadOn.{TellsNothing, after_manager}
use Rattle.core_steps.specs.StepsLeft.{steps_left}
use Rattle.core_steps.proofs.ManagerCore.{manager_core}
use Rattle.core_steps.proofs.ManagerLeft.{manager_left}

-- the modules of the core after so many steps
pub modules_times : (n : ℕ) (s : CoreState) → record s { modules = managed_times s.shape s.sections s.words n s.modules } ≡ after_manager s n
modules_times zero s = refl
modules_times (suc n) s = modules_times n (stepped s actor.Manager)

pub times_tell : (n : ℕ) (s : CoreState) → TellNothing s.shape s.sections s.words n s.modules → TellsNothing n s
times_tell zero s none = tt
times_tell (suc n) s none = (none.0, none.1, times_tell n (stepped s actor.Manager) none.2)

pub core_after : (n : ℕ) (s : CoreState) → IsCore s → TellsNothing n s → IsCore (after_manager s n)
core_after zero s core none = core
core_after (suc n) s core none = core_after n (stepped s actor.Manager) (manager_core s core none.0) none.2

-- each of these steps leaves fewer
pub left_after_manager : (n : ℕ) (s : CoreState) → IsCore s → TellsNothing n s → steps_left (after_manager s n) actor.Manager + n ≤ steps_left s actor.Manager
left_after_manager zero s core none = omega arith
left_after_manager (suc n) s core none =
    let rest = left_after_manager n (stepped s actor.Manager) (manager_core s core none.0) none.2 in
    let less : steps_left (stepped s actor.Manager) actor.Manager < steps_left s actor.Manager = manager_left s core none.0 in
    omega (arith, rest, less)
