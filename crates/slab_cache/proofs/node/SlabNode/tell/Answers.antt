use Rattle.std.proofs.Common.{subst}
use Rattle.slab_cache.specs.Shown.{SlabNodeShown}
use Rattle.slab_cache.specs.Tables.{AreSlabs}
use Rattle.slab_cache.proofs.node.SlabNode.tell.Goals as goal

pub returns : goal.returns
returns c = subst (λ (node : SlabNodeShown). AreSlabs node.vectors node.slabs) c.self.view_is c.self.invariant
