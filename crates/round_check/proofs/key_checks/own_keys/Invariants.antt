use Rattle.std.proofs.Common.{◌≡◌, ◌+◌, ◌-◌}
use Rattle.std.specs.List.{range_with_len}
use Rattle.round_check.specs.Keys.{own_keys}
use Rattle.round_check.proofs.key_checks.own_keys.Given as goal

abbrev pub invariant-loop-key : goal.invariant-loop-key
invariant-loop-key l = own_keys l.keys l.turn (range_with_len l.key (l.first + l.count - l.key)) ≡ own_keys l.keys l.turn (range_with_len l.first l.count)
