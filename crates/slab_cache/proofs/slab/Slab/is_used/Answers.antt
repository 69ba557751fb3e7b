use Rattle.slab_cache.proofs.SlabLemmas.{used_is}
use Rattle.slab_cache.proofs.slab.Slab.is_used.Goals as goal

pub returns : goal.returns
returns c = used_is c.self.inside.class.index c.self.inside.free c.all_free.result c.self.inside.block c.self.inside.vector c.args.self.now c.self.view_is c.self.invariant c.all_free.ensures
