use Rattle.slab_ext.proofs.Slots.{fresh}
use Rattle.slab_ext.proofs.vectors.VectorPool.new.Goals as goal

pub invariant_of-result : goal.invariant_of-result
invariant_of-result c = fresh c.args.cpu c.args.vectors c.args.pools.items c.in_ok-first_in.field-0.items c.requires.few c.requires.whole c.in_ok-first_in.ensures
