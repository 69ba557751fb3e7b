use Rattle.slab_cache.proofs.SlabLemmas.{whole_parts}
use Rattle.slab_cache.proofs.slab.Slab.into_parts.Goals as goal

pub returns-clause-whole : goal.returns-clause-whole
returns-clause-whole c = whole_parts c.self.inside.class.index c.self.inside.free c.self.inside.block c.self.inside.vector c.args.self c.self.view_is c.self.invariant c.requires
