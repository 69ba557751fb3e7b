use Rattle.std.proofs.Common.{◌≤◌}
use Rattle.core_steps.specs.declared.tests.TheConstants.{TAGS}
use Rattle.core_steps.proofs.tests.play_all.Given as goal

-- the core has the tags that are looked at
abbrev pub invariant-loop-place : goal.invariant-loop-place
invariant-loop-place g l = TAGS ≤ l.core.shape.tags
