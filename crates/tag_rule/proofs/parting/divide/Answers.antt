use Rattle.std.proofs.Common.{◌<◌, subst, sym}
use Rattle.tag_rule.specs.Shown.{CellShown}
use Rattle.tag_rule.proofs.Pools.{front_me, back_me, front_holds, back_holds}
use Rattle.tag_rule.proofs.parting.divide.Goals as goal

pub invariant_of-front : goal.invariant_of-front
invariant_of-front c =
    let less = subst (λ (x : CellShown). c.args.count < x.count) (sym c.cell.view_is) c.requires.within.1 in
    record {
      me = front_me _ _ _ _ _ _ c.cell.invariant.me c.split_off-behind.ensures.kept.1 c.requires.within.0 less;
      holds = front_holds _ _ _ _ _ c.cell.invariant.holds c.requires.within.0 less;
    }

pub invariant_of-rest : goal.invariant_of-rest
invariant_of-rest c =
    let less = subst (λ (x : CellShown). c.args.count < x.count) (sym c.cell.view_is) c.requires.within.1 in
    record {
      me = back_me _ _ _ _ _ _ c.cell.invariant.me c.split_off-behind.ensures.gone.1 c.requires.within.0 less;
      holds = back_holds _ _ _ _ _ c.cell.invariant.holds c.requires.within.0 less;
    }
