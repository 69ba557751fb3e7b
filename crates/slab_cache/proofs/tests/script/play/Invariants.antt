use Rattle.std.proofs.Common.{◌≡◌}
use Rattle.slab_cache.proofs.tests.script.play.Given as goal

abbrev pub invariant-loop-step : goal.invariant-loop-step
invariant-loop-step g l = l.desk ≡ l.fn.desk
