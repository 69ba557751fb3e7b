use Rattle.std.proofs.Common.{◌≡◌, ◌*◌, [], map, drop}
use Rattle.std.specs.Arc.{arc_value}
use Rattle.std.specs.List.{range_with_len}
use Rattle.tag_rule.specs.Made.{fresh_vectors}
use Rattle.tag_rule.specs.Rule.{view_of}
use Rattle.tag_rule.specs.Tokens.{board_of}
use Rattle.tag_rule.proofs.making.take_objects.Given as goal

abbrev pub invariant-loop-cpu : goal.invariant-loop-cpu
invariant-loop-cpu l = record {
  table : l.seat.table_id ≡ l.fn.seat.table_id;
  me : l.seat.me ≡ (view_of (drop (l.cpu * l.size) l.fn.seat.me.0.parts), []);
  made : map (λ v. v.items) l.made.items ≡ map (fresh_vectors (board_of (arc_value l.words))) (range_with_len 0 l.cpu);
}
