use Rattle.std.proofs.Common.{ℕ, ◌+◌, ◌*◌, rules}
use Rattle.std.specs.Arc.{arc_value}
use Rattle.std.specs.List.{range_with_len}
use Rattle.tag_rule.specs.Tokens.{board_of}
use Rattle.tag_rule.proofs.Dealt.{run_front, left_then, one_row_more, next_row, map_more}
use Rattle.tag_rule.proofs.making.take_pools.Goals as goal

pub take_pool-requires-clause-front : goal.take_pool-requires-clause-front
take_pool-requires-clause-front c = run_front _ c.args.seat.now.me _ _ _ _ c.requires.front c.loop-place.invariant.me (one_row_more _ _ _ c.loop-place-test.true)

pub loop-place-preserved : goal.loop-place-preserved
loop-place-preserved c = record {
  table = search rules;
  me = left_then _ _ c.args.seat.now.me _ c.args.size _ c.loop-place.invariant.me c.in_ok-take_pool.ensures.seat.1 (next_row _ _);
  made = map_more (λ (n : ℕ). record { board = board_of (arc_value c.args.words.now); cells = range_with_len (c.args.first + n * c.args.size) c.args.size }) _ _ _ _ c.loop-place.invariant.made c.in_ok-take_pool.ensures.pool c.in_ok-push.ensures.items;
}
