use Rattle.std.proofs.Common.{ap, rules, sym, subst}
use Rattle.std.specs.Arc.{arc_value}
use Rattle.tag_model.specs.declared.state.Held.TheVariants as held
use Rattle.tag_rule.specs.declared.words.Words.{Words}
use Rattle.tag_rule.specs.Seated.{CellHolds}
use Rattle.tag_rule.proofs.Pools.{part_moves_shown, part_cell_shown, part_pool_shown, pool_after, pool_has}
use Rattle.tag_rule.proofs.parting.part.Goals as goal

pub divide_seat-seat-requires-clause-moves : goal.divide_seat-seat-requires-clause-moves
divide_seat-seat-requires-clause-moves c =
    part_moves_shown _ _ _ _ _ _ c.deref-words.ensures (ap (λ m. m.0) c.pool.invariant.me) c.pool.view_is c.pool.invariant.holds c.requires.some c.requires.there

pub invariant_of-pool : goal.invariant_of-pool
invariant_of-pool c = pool_after _ _ _ (search rules) c.divide_seat-seat.ensures.kept.1 (ap (λ m. m.1) c.pool.invariant.me)
    (part_pool_shown _ _ _ _ _ _ c.deref-words.ensures (ap (λ m. m.0) c.pool.invariant.me) c.pool.view_is c.pool.invariant.holds c.requires.some c.requires.there)

pub invariant_of-result : goal.invariant_of-result
invariant_of-result c = record {
  me = c.divide_seat-seat.ensures.gone.1;
  holds = subst (λ (w : Words). CellHolds w.shape c.args.first c.args.count held.None) (sym c.deref-words.ensures)
      (part_cell_shown _ _ _ _ _ _ c.deref-words.ensures (ap (λ m. m.0) c.pool.invariant.me) c.pool.view_is c.pool.invariant.holds c.requires.some c.requires.there);
}

pub returns-clause-pool : goal.returns-clause-pool
returns-clause-pool c = (search rules, λ n. pool_has (arc_value c.pool.inside.words) c.divide_seat-seat.new.seat.me c.args.pool.now c.pool.inside.seat.me.0 _ c.args.first c.args.count n c.divide_seat-seat.ensures.kept.1 c.pool.view_is)
