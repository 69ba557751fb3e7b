use Rattle.std.proofs.Common.{ℕ, ◌<◌, subst, rules, refl}
use Rattle.std.specs.Arc.{arc_value}
use Rattle.tag_rule.specs.Fresh.{fresh_cpu}
use Rattle.tag_rule.specs.declared.words.Words.{Words}
use Rattle.tag_rule.specs.Tokens.{board_of}
use Rattle.tag_rule.proofs.Dealt.{cpu_front, left_then, map_more}
use Rattle.tag_rule.proofs.making.take_cpus.Goals as goal

pub take_cpu-requires-clause-front : goal.take_cpu-requires-clause-front
take_cpu-requires-clause-front c = cpu_front _ c.args.seat.now.me (arc_value c.args.words.now).shape _ c.requires.front c.loop-number.invariant.me
    (subst (λ (w : Words). c.loop-number.number < w.shape.cpus) c.deref-2.ensures c.loop-number-test.true)

pub loop-number-preserved : goal.loop-number-preserved
loop-number-preserved c = record {
  table = search rules;
  me = left_then _ _ c.args.seat.now.me _ 1 _ c.loop-number.invariant.me c.in_ok-take_cpu.ensures.seat.1 refl;
  made = map_more (λ (n : ℕ). record { board = board_of (arc_value c.args.words.now); part = fresh_cpu (arc_value c.args.words.now).shape n }) _ _ _ _ c.loop-number.invariant.made c.in_ok-take_cpu.ensures.cpu c.in_ok-push.ensures.items;
}
