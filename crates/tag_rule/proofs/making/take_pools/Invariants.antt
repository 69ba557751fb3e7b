use Rattle.std.proofs.Common.{◌≡◌, ◌*◌, [], drop}
use Rattle.std.specs.Arc.{arc_value}
use Rattle.tag_rule.specs.Made.{pools}
use Rattle.tag_rule.specs.Rule.{view_of}
use Rattle.tag_rule.specs.Tokens.{board_of}
use Rattle.tag_rule.proofs.making.take_pools.Given as goal

abbrev pub invariant-loop-place : goal.invariant-loop-place
invariant-loop-place l = record {
  table : l.seat.table_id ≡ l.fn.seat.table_id;
  me : l.seat.me ≡ (view_of (drop (l.place * l.size) l.fn.seat.me.0.parts), []);
  made : l.made.items ≡ pools (board_of (arc_value l.words)) l.first l.place l.size;
}
