use Rattle.std.proofs.Common.{◌≡◌, ◌+◌, ◌≤◌, drop}
use Rattle.round_check.specs.Walk.{walk_items}
use Rattle.round_check.proofs.walk.walk_items.Given as goal

-- walking what is left from here gives what walking all gives
abbrev pub invariant-loop-item : goal.invariant-loop-item
invariant-loop-item l = record {
  walked : walk_items (drop l.item-index l.items) l.walk ≡ walk_items l.items l.fn.walk;
  rounds : l.walk.round ≤ l.fn.walk.round + l.item-index;
}
