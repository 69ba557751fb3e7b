use Rattle.slab_cache.proofs.SlabLemmas.{new_is}
use Rattle.slab_cache.proofs.slab.Slab.new.Goals as goal

pub invariant_of-result : goal.invariant_of-result
invariant_of-result c = new_is c.args.class.index c.all_free.result c.args.block c.args.vector c.requires.block c.requires.fits c.requires.table c.requires.whole c.all_free.ensures
