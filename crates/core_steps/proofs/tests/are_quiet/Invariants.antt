use Rattle.std.proofs.Common.{◌≡◌}
use Rattle.core_steps.proofs.tests.are_quiet.Given as goal

-- the core keeps its shape
abbrev pub invariant-loop-step : goal.invariant-loop-step
invariant-loop-step l = l.core.shape ≡ l.initial.core.shape
