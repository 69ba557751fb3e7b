use Rattle.std.proofs.Common.{sym, subst, refl, rules}
use Rattle.std.proofs.lemmas.List.FromFn.{length-range_with_len}
use Rattle.std.specs.List.{range_with_len}
use Rattle.tag_rule.specs.declared.words.Words.{Words}
use Rattle.tag_rule.specs.Seated.{CellsHold}
use Rattle.tag_rule.proofs.Dealt.{front_of, range_holds, pool_is}
use Rattle.tag_rule.proofs.Pools.{pool_after}
use Rattle.tag_rule.proofs.making.take_pool.Goals as goal

pub invariant_of-result : goal.invariant_of-result
invariant_of-result c = pool_after _ _ _ (search rules) (front_of _ _ _ _ (length-range_with_len _ _) c.requires.front c.take_front-own.ensures.gone.1) refl
    (subst (λ (w : Words). CellsHold w.shape (range_with_len c.args.first c.args.size)) (sym c.in_ok-shared.ensures) (range_holds _ _ _ c.requires.within.0 c.requires.within.1))

pub returns-clause-pool : goal.returns-clause-pool
returns-clause-pool c = pool_is _ _ _ _ c.in_ok-shared.ensures (front_of _ _ _ _ (length-range_with_len _ _) c.requires.front c.take_front-own.ensures.gone.1)
