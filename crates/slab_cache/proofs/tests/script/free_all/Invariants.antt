use Rattle.std.proofs.Common.{◌≡◌}
use Rattle.slab_cache.proofs.tests.script.free_all.Given as goal

abbrev pub invariant-loop-index : goal.invariant-loop-index
invariant-loop-index g l = l.desk ≡ l.fn.desk
