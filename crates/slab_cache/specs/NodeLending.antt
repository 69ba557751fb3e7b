-- A node with slabs whose node of frames is lent ends with the node that is left there.
use Rattle.std.specs.Borrow.{Lends, MutBor, Fml}
use Rattle.page_ext.specs.Shown.{NodeShown}
use Rattle.page_ext.specs.contracts.node.Node.{the_row as node_row}
use Rattle.slab_cache.specs.Shown.{SlabNodeShown}
use Rattle.slab_cache.specs.contracts.node.SlabNode.{the_row}

abbrev pub with_node : SlabNodeShown → NodeShown → SlabNodeShown
with_node slabs node = record slabs { node = node }

abbrev pub LendsNode : MutBor SlabNodeShown → MutBor NodeShown → Fml
LendsNode slabs node = Lends the_row node_row slabs node (with_node slabs.now)
