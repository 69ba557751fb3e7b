use Rattle.std.proofs.Common.{◌≡◌, None, replicate}
use Rattle.module_ops.proofs.modules.no_runs.Given as goal

abbrev pub invariant-loop-cpu : goal.invariant-loop-cpu
invariant-loop-cpu l = l.inside.items ≡ replicate l._cpu (replicate l.sections None)
