use Rattle.std.proofs.Common.{◌≡◌, [], drop}
use Rattle.std.specs.Arc.{arc_value}
use Rattle.tag_rule.specs.Rule.{view_of}
use Rattle.tag_rule.specs.Made.{seats_to}
use Rattle.tag_rule.specs.Tokens.{board_of}
use Rattle.tag_rule.proofs.making.take_cpus.Given as goal

abbrev pub invariant-loop-number : goal.invariant-loop-number
invariant-loop-number l = record {
  table : l.seat.table_id ≡ l.fn.seat.table_id;
  me : l.seat.me ≡ (view_of (drop l.number l.fn.seat.me.0.parts), []);
  made : l.cpus.items ≡ seats_to (board_of (arc_value l.words)) l.number;
}
