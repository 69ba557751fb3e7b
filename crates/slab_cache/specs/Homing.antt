-- How storage comes home to its node, once its reference is closed. A slab that no object is in is given up.
use Rattle.std.specs.Prelude.{ℕ, false, Option, Some, None, List, [], if◌then◌else◌}
use Rattle.tag_model.specs.Moves.{Move}
use Rattle.tag_model.specs.RefMoves.{close_moves}
use Rattle.slab_cache.specs.Classes.{slab_order}
use Rattle.slab_cache.specs.Slabs.{Slab, NodeState, slab_at, with_slab, with_pages, with_vector, with_place, is_used, slab_held}
use Rattle.slab_cache.specs.Storage.{Storage, Pages, Object, Uncounted}

-- the node after it, and the moves of the node's CPU
pub record Taken : Type 0 where
  pub node : NodeState
  pub moves : List Move

abbrev pub without_slab : ℕ → Slab → NodeState → NodeState
without_slab frame slab node = with_vector false slab.vector (with_pages false frame (slab_order slab.class) (with_slab frame None node))

-- a slab as an object has left it
abbrev pub slab_left : ℕ → NodeState → Slab → Taken
slab_left frame node slab =
    if is_used slab then record { node = with_slab frame (Some slab) node; moves = [] }
    else record { node = without_slab frame slab node; moves = close_moves node.node.cpu (slab_held slab.class) }

abbrev pub place_home : ℕ → ℕ → NodeState → Option Slab → Taken
place_home frame place node None = record { node = node; moves = [] }
place_home frame place node (Some slab) = slab_left frame node (with_place false place slab)

abbrev pub come_home : Storage → NodeState → Taken
come_home (Pages block) node = record { node = with_pages false block.frame block.order node; moves = [] }
come_home (Object home frame place vector holds) node = place_home frame place node (slab_at frame node)
come_home (Uncounted home frame place) node = place_home frame place node (slab_at frame node)
