-- The actors and ops of a schedule as those of the core, and the codes of the core's refusals.
use Rattle.core_steps.specs.declared.op.Actor.{Actor}
use Rattle.core_steps.specs.declared.op.Actor.TheVariants as actor
use Rattle.core_steps.specs.declared.op.Op.{Op}
use Rattle.core_steps.specs.declared.op.Op.TheVariants as op
use Rattle.cpu_ops.specs.declared.refused.StepRefused.{StepRefused}
use Rattle.cpu_ops.specs.declared.refused.StepRefused.TheVariants as refused
use Rattle.input_form.specs.declared.code.Code.{Code}
use Rattle.input_form.specs.declared.code.Code.TheVariants as code
use Rattle.step_text.specs.declared.steps.StepActor.{StepActor}
use Rattle.step_text.specs.declared.steps.StepActor.TheVariants as step_actor
use Rattle.step_text.specs.declared.steps.StepOp.{StepOp}
use Rattle.step_text.specs.declared.steps.StepOp.TheVariants as step_op

abbrev pub actor_of : StepActor → Actor
actor_of (step_actor.Cpu cpu) = actor.Cpu cpu
actor_of step_actor.Manager = actor.Manager

abbrev pub op_of : StepOp → Op
op_of (step_op.Open key section index size) = op.Open key section index size
op_of (step_op.Close key) = op.Close key
op_of (step_op.Split key parts first) = op.Split key parts first
op_of (step_op.Swap one two) = op.Swap one two
op_of (step_op.Trim key bytes) = op.Trim key bytes
op_of (step_op.Enter section) = op.Enter section
op_of (step_op.Leave section) = op.Leave section
op_of (step_op.Load section) = op.Load section
op_of (step_op.Unload section) = op.Unload section
op_of step_op.Clean = op.Clean

-- the code of a refused step
abbrev pub code_of : StepRefused → Code
code_of refused.NoStep = code.NoStep
code_of refused.ListHeld = code.Held
code_of (refused.NotLive key) = code.NotLive key
code_of (refused.KeyUsed key) = code.KeyUsed key
code_of (refused.NotRunning section) = code.NotRunning section
code_of (refused.Inside section) = code.Inside section
code_of (refused.NotLoaded section) = code.NotLoaded section
code_of (refused.AlreadyLoaded section) = code.AlreadyLoaded section
code_of (refused.Busy users) = code.Busy users
code_of refused.Full = code.Full
code_of refused.NoRoom = code.NoRoom
code_of refused.Uneven = code.Uneven
code_of refused.TooSmall = code.TooSmall
