use Rattle.std.proofs.Common.{◌≡◌, ◌-◌, replicate}
use Rattle.tag_rule.specs.Shown.{Board}
use Rattle.round_worker.specs.declared.keys.Kept.TheVariants.{Nothing}
use Rattle.round_worker.specs.Parting.{AreKept, with_parts}
use Rattle.round_worker.proofs.keys.Keys.put_nothings.Given as goal

abbrev pub invariant-loop-place : goal.invariant-loop-place
invariant-loop-place l = record {
  put : with_parts l.fn.key l.fn.first (replicate (l.fn.count - l.place) (Nothing l.fn.order)) l.place l.self ≡ with_parts l.fn.key l.fn.first (replicate l.fn.count (Nothing l.fn.order)) 0 l.initial.self;
  kept : (board : Board) → AreKept board l.initial.self → AreKept board l.self;
}
