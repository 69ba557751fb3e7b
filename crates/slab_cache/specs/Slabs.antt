-- Slabs of objects, and a node that has some.
use Rattle.std.specs.Prelude.{ℕ, ◌==◌, ◌&&◌, Bool, false, not, Option, Some, None, List, position, replicate, slice_set, slice_index_or, unwrap_or}
use Rattle.std.specs.List.{list_any}
use Rattle.tag_model.specs.declared.state.Tag.{Tag}
use Rattle.tag_model.specs.declared.state.Held.{Held}
use Rattle.tag_model.specs.RefMoves.{reference_to}
use Rattle.page_ext.specs.Blocks.{Node, page_bytes, with_frames}
use Rattle.slab_cache.specs.Classes.{slab_order, objects_in}

-- a slab: its class, its places, each taken or free, and the vector of their cells, if it has one
pub record Slab : Type 0 where
  pub class : ℕ
  pub places : List Bool
  pub vector : Option ℕ

-- a node with slabs: its frames; for each frame the slab that begins there, or none; its vectors, each out or in
pub record NodeState : Type 0 where
  pub node : Node
  pub slabs : List (Option Slab)
  pub vectors : List Bool

-- the slab that begins at a frame
abbrev pub slab_at : ℕ → NodeState → Option Slab
slab_at frame node = slice_index_or node.slabs frame None

abbrev pub with_slab : ℕ → Option Slab → NodeState → NodeState
with_slab frame slab node = record node { slabs = slice_set node.slabs frame slab }

-- the frames of a block are taken, or free
abbrev pub with_pages : Bool → ℕ → ℕ → NodeState → NodeState
with_pages taken frame order node = record node { node = with_frames taken frame order node.node }

-- a vector is out, or in
abbrev pub with_vector : Bool → Option ℕ → NodeState → NodeState
with_vector out None node = node
with_vector out (Some vector) node = record node { vectors = slice_set node.vectors vector out }

-- the lowest vector that is in, if one is
abbrev pub lowest_vector : NodeState → Option ℕ
lowest_vector node = position not node.vectors

-- whether a slab of the class begins there that has a free place
abbrev pub is_open : ℕ → Option Slab → Bool
is_open class None = false
is_open class (Some slab) = (slab.class == class) && list_any not slab.places

-- the frame of the lowest such slab, if there is one
abbrev pub open_frame : ℕ → NodeState → Option ℕ
open_frame class node = position (is_open class) node.slabs

-- the lowest free place of a slab that has one
abbrev pub free_place : Slab → ℕ
free_place slab = unwrap_or (position not slab.places) 0

abbrev pub with_place : Bool → ℕ → Slab → Slab
with_place taken place slab = record slab { places = slice_set slab.places place taken }

-- whether an object is in the slab
abbrev pub is_used : Slab → Bool
is_used slab = list_any (λ taken. taken) slab.places

abbrev pub new_slab : ℕ → Option ℕ → Slab
new_slab class vector = record { class = class; places = replicate (objects_in class) false; vector = vector }

-- the tag of the slab allocator itself: the first of the kernel's
abbrev pub slab_tag : Tag
slab_tag = record { number = 0; «module» = 0 }

-- the reference of a slab's block
abbrev pub slab_held : ℕ → Held
slab_held class = reference_to (Some slab_tag) (page_bytes (slab_order class))
