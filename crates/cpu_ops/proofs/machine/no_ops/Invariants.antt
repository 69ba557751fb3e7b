use Rattle.std.proofs.Common.{◌≡◌, replicate}
use Rattle.cpu_ops.specs.Machine.{nothing_waits}
use Rattle.cpu_ops.proofs.machine.no_ops.Given as goal

abbrev pub invariant-loop-cpu : goal.invariant-loop-cpu
invariant-loop-cpu l = l.waiting.items ≡ replicate l._cpu nothing_waits
