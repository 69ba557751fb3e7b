use Rattle.std.proofs.Common.{◌≡◌, ◌*◌, replicate}
use Rattle.core_steps.proofs.machine.no_words.Given as goal

abbrev pub invariant-loop-cpu : goal.invariant-loop-cpu
invariant-loop-cpu l = l.words.items ≡ replicate l._cpu (replicate (2 * l.tags) 0)
