use Rattle.core_steps.proofs.Runs.{Ran}
use Rattle.core_steps.proofs.run.run_steps.Given as goal

-- the first actors took their steps, and each state so far is safe
abbrev pub invariant-loop-taken : goal.invariant-loop-taken
invariant-loop-taken l = Ran l.initial.core l.actors l.core l.taken
