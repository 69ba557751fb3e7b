use Rattle.std.proofs.Common.{◌≡◌, drop}
use Rattle.round_check.specs.Walk.{walk_ops}
use Rattle.round_check.proofs.walk.walk_ops.Given as goal

-- walking what is left from here gives what walking all gives
abbrev pub invariant-loop-on : goal.invariant-loop-on
invariant-loop-on l = record {
  walked : walk_ops (drop l.on-index l.ops) l.walk ≡ walk_ops l.ops l.fn.walk;
  round : l.walk.round ≡ l.fn.walk.round;
}
