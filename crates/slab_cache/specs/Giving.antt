-- How a node gives storage: a block at the least start, an object at the lowest free place of the lowest slab of its class, or of a new one.
use Rattle.std.specs.Prelude.{ℕ, true, Option, Some, None, List, ◌++◌, option_map}
use Rattle.tag_model.specs.declared.state.Tag.{Tag}
use Rattle.tag_model.specs.Moves.{Move}
use Rattle.tag_model.specs.RefMoves.{reference_to, open_moves}
use Rattle.buddy.specs.Frames.{least_start}
use Rattle.page_ext.specs.Blocks.{block_at}
use Rattle.slab_cache.specs.Classes.{class_of, slab_order, order_of}
use Rattle.slab_cache.specs.Slabs.{Slab, NodeState, slab_at, with_slab, with_pages, with_vector, lowest_vector, open_frame, free_place, with_place, new_slab, slab_held}
use Rattle.slab_cache.specs.Storage.{Storage, Pages, held_of, object_at}

-- what is given, the node after it, and the moves of the CPU, which is the node's
pub record Given : Type 0 where
  pub node : NodeState
  pub storage : Storage
  pub moves : List Move

abbrev pub start_in : ℕ → NodeState → Option ℕ
start_in order node = least_start node.node.frames order

-- ---- a block

abbrev pub block_from : Option Tag → ℕ → NodeState → ℕ → Given
block_from tag order node start = let block = block_at tag node.node.cpu order start in record {
  node = with_pages true start order node;
  storage = Pages block;
  moves = open_moves node.node.cpu block.holds;
}

-- a block of the order under the tag; none where the node has no start for it
abbrev pub given_block : Option Tag → ℕ → NodeState → Option Given
given_block tag order node = option_map (block_from tag order node) (start_in order node)

-- ---- an object

-- the lowest free place of the slab at the frame
abbrev pub object_from : Option Tag → ℕ → ℕ → NodeState → Slab → Given
object_from tag class frame node slab =
    let object = object_at node.node.cpu frame (free_place slab) slab.vector (reference_to tag class) in record {
      node = with_slab frame (Some (with_place true (free_place slab) slab)) node;
      storage = object;
      moves = open_moves node.node.cpu (held_of object);
    }

-- the node with a new slab at the frames of a start, which has the lowest vector that is in
abbrev pub with_new_slab : ℕ → ℕ → NodeState → NodeState
with_new_slab class start node =
    let vector = lowest_vector node in
    with_slab start (Some (new_slab class vector)) (with_vector true vector (with_pages true start (slab_order class) node))

-- the same, of a slab that was made for it, whose block is one more reference
abbrev pub object_from_new : Option Tag → ℕ → NodeState → ℕ → Given
object_from_new tag class node start =
    let given = object_from tag class start (with_new_slab class start node) (new_slab class (lowest_vector node)) in
    record given { moves = open_moves node.node.cpu (slab_held class) ++ given.moves }

abbrev pub slab_or_new : Option Tag → ℕ → NodeState → Option ℕ → Option Given
slab_or_new tag class node (Some frame) = option_map (object_from tag class frame node) (slab_at frame node)
slab_or_new tag class node None = option_map (object_from_new tag class node) (start_in (slab_order class) node)

abbrev pub object_or_block : Option Tag → ℕ → NodeState → Option ℕ → Option Given
object_or_block tag size node (Some class) = slab_or_new tag class node (open_frame class node)
object_or_block tag size node None = given_block tag (order_of size) node

-- an object of the size under the tag; none where it needs a new block and the node has no start for that
abbrev pub given_object : Option Tag → ℕ → NodeState → Option Given
given_object tag size node = object_or_block tag size node (class_of size)
