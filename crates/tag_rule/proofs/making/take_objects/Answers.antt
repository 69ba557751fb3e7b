use Rattle.std.proofs.Common.{◌*◌, rules}
use Rattle.std.specs.Arc.{arc_value}
use Rattle.tag_rule.specs.Made.{fresh_vectors}
use Rattle.tag_rule.specs.Tokens.{board_of}
use Rattle.tag_rule.proofs.Dealt.{objects_front, vectors_are, items_more, left_then, next_row}
use Rattle.tag_rule.proofs.making.take_objects.Goals as goal

pub take_pools-requires-clause-front : goal.take_pools-requires-clause-front
take_pools-requires-clause-front c = objects_front _ (arc_value c.args.words.now) _ _ c.deref.ensures c.words.ensures c.loop-cpu-test.true _ c.args.seat.now.me c.requires.front c.loop-cpu.invariant.me

pub loop-cpu-preserved : goal.loop-cpu-preserved
loop-cpu-preserved c = record {
  table = search rules;
  me = left_then _ _ c.args.seat.now.me _ (c.deref.result.now.shape.vectors * 64) _ c.loop-cpu.invariant.me c.in_ok-own.ensures.seat.1 (next_row _ _);
  made = items_more (fresh_vectors (board_of (arc_value c.args.words.now))) _ _ _ _ c.loop-cpu.invariant.made (vectors_are _ (arc_value c.args.words.now) _ _ c.deref.ensures c.words.ensures c.loop-cpu-test.true _ c.in_ok-own.ensures.pools) c.in_ok-push.ensures.items;
}
