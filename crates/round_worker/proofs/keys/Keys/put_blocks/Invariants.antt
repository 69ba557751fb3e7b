use Rattle.std.proofs.Common.{◌≡◌, ◌+◌, ◌≤◌, All, length}
use Rattle.std.specs.Vec.Iter.{into_iter_items}
use Rattle.tag_rule.specs.Shown.{Board}
use Rattle.round_worker.specs.Kept.{IsKept}
use Rattle.round_worker.specs.Parting.{AreKept, blocks, with_parts}
use Rattle.round_worker.proofs.keys.Keys.put_blocks.Given as goal

abbrev pub invariant-loop-block : goal.invariant-loop-block
invariant-loop-block l = record {
  next : (goal.iterator-loop-block).can_next l.block-iterator;
  finite : (goal.iterator-loop-block).is_finite l.block-iterator;
  put : with_parts l.fn.key l.fn.first (blocks (into_iter_items l.block-iterator)) l.place l.self ≡ with_parts l.fn.key l.fn.first (blocks l.fn.parts.items) 0 l.initial.self;
  few : l.fn.first + (l.place + length (into_iter_items l.block-iterator)) ≤ 65537;
  kept : (board : Board) → AreKept board l.initial.self → All (IsKept board) (blocks l.fn.parts.items) → AreKept board l.self × All (IsKept board) (blocks (into_iter_items l.block-iterator));
}
