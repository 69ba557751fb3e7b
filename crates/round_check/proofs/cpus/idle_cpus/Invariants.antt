use Rattle.std.proofs.Common.{◌≡◌, vec_len, replicate}
use Rattle.round_check.specs.Cpus.{idle}
use Rattle.round_check.proofs.cpus.idle_cpus.Given as goal

abbrev pub invariant-loop : goal.invariant-loop
invariant-loop l = (l.cpus.items ≡ replicate l.counter idle) × (vec_len l.cpus ≡ l.counter)
