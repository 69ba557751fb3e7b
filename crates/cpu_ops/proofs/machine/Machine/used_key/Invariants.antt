use Rattle.std.proofs.Common.{◌≡◌, ◌-◌, find}
use Rattle.std.specs.List.{range_with_len}
use Rattle.cpu_ops.specs.Machine.{is_used, used_key}
use Rattle.cpu_ops.proofs.machine.Machine.used_key.Given as goal

-- what is left of the new keys gives what all of them give
abbrev pub invariant-loop-key : goal.invariant-loop-key
invariant-loop-key l = used_key l.self.places l.self.waiting l.parts l.first ≡ find (is_used l.self.places l.self.waiting) (range_with_len l.key (l.key-end - l.key))
