-- What is said of many steps of a core.
use Rattle.std.specs.Prelude.{◌≡◌, ℕ, ◌++◌, List, [], ◌∷◌, None, replicate}
use Rattle.tag_model.specs.declared.state.Tag.{Tag}
use Rattle.tag_model.specs.declared.state.Kind.TheVariants.{Calls}
use Rattle.tag_model.specs.Moves.{Move}
use Rattle.cpu_ops.specs.declared.op.CpuOp.{CpuOp}
use Rattle.core_steps.specs.declared.op.Actor.{Actor}
use Rattle.core_steps.specs.declared.op.Actor.TheVariants as actor
use Rattle.cpu_ops.specs.Machine.{Waiting, waiting_at, moves_of_step}
use Rattle.module_ops.specs.Modules.{inside_at}
use Rattle.core_steps.specs.CoreState.{CoreState, IsActor, ops_of, refused, stepped, run_of}

-- the CPU's first op, of which it has taken so many steps
abbrev pub waits_for : CpuOp → List CpuOp → ℕ → Waiting
waits_for op ops done = record { ops = op ∷ ops; done = done }

-- the CPU's next step is the first of this op, and isn't refused
pub record Begins (s : CoreState) (cpu : ℕ) (op : CpuOp) (ops : List CpuOp) : Type 0 where
  pub waits : waiting_at s.machine cpu ≡ waits_for op ops 0
  pub free : refused s (actor.Cpu cpu) ≡ None

-- the core after so many steps of the CPU
abbrev pub after_steps : CoreState → ℕ → ℕ → CoreState
after_steps s cpu n = run_of s (replicate n (actor.Cpu cpu))

-- the moves of an actor's next step
abbrev pub moves_of_actor : CoreState → Actor → List Move
moves_of_actor s (actor.Cpu cpu) = moves_of_step s.machine (inside_at s.modules cpu) cpu
moves_of_actor s actor.Manager = []

-- the moves of a run
abbrev pub moves_of_run : CoreState → List Actor → List Move
moves_of_run s [] = []
moves_of_run s (a ∷ actors) = moves_of_actor s a ++ moves_of_run (stepped s a) actors

-- the CPU counts a call more under the tag
abbrev pub call_move : ℕ → Tag → Move
call_move cpu tag = record { cpu = cpu; kind = Calls; tag = tag.number; up = 1; down = 0 }

-- the actor's queue is as it was
abbrev pub SameQueue : CoreState → CoreState → Actor → Type 0
SameQueue old new (actor.Cpu cpu) = waiting_at new.machine cpu ≡ waiting_at old.machine cpu
SameQueue old new actor.Manager = new.modules.manager ≡ old.modules.manager

-- no actor has an op queued or under way
abbrev pub IsIdle : CoreState → Type 0
IsIdle s = (who : Actor) → IsActor s who → ops_of s who ≡ []
