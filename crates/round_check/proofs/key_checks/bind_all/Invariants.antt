use Rattle.std.proofs.Common.{◌≡◌, ◌+◌, ◌-◌}
use Rattle.std.specs.List.{range_with_len}
use Rattle.round_check.specs.Keys.{bind_all}
use Rattle.round_check.proofs.key_checks.bind_all.Given as goal

abbrev pub invariant-loop-key : goal.invariant-loop-key
invariant-loop-key l = bind_all l.keys l.turn l.bound (range_with_len l.key (l.first + l.count - l.key)) ≡ bind_all l.fn.keys l.turn l.bound (range_with_len l.first l.count)
