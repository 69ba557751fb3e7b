-- What the types show of a node with slabs and of objects, and what it is in the words of the meaning.
use Rattle.std.specs.Prelude.{ℕ, ◌≡◌, ◌^◌, ⊤, Bool, true, false, is_none, Option, Some, None, List, length, map, option_map, slice_get}
use Rattle.tag_model.specs.declared.state.Held.{Held}
use Rattle.tag_model.specs.declared.state.Held.TheVariants as held
use Rattle.tag_model.specs.Index.{object_index, page_index}
use Rattle.tag_rule.specs.Shown.{Board, CellShown, PoolShown}
use Rattle.page_ext.specs.Shown.{NodeShown, BlockShown, Fits, block_of, holding}
use Rattle.slab_ext.specs.Vectors.{VectorsShown}
use Rattle.slab_cache.specs.Classes.{slab_order}
use Rattle.slab_cache.specs.Slabs.{Slab, NodeState, slab_held}
use Rattle.slab_cache.specs.Storage as storage
use Rattle.slab_cache.specs.Storage.{Storage, object_at}
use Rattle.slab_cache.specs.declared.object.Stored.{Stored}
use Rattle.slab_cache.specs.declared.object.Stored.TheVariants.{Pages, InSlab}
use Rattle.slab_cache.specs.declared.place.Place.{Place}
use Rattle.slab_cache.specs.declared.place.PlaceCell.{PlaceCell}

-- ---- slabs

-- a slab, with the table of its cells and where its block begins
pub record SlabShown : Type 0 where
  pub board : Board
  pub home : ℕ
  pub frame : ℕ
  pub slab : Slab

-- its block
abbrev pub slab_block : SlabShown → BlockShown
slab_block shown =
    let order = slab_order shown.slab.class in
    record {
      home = shown.home;
      frame = shown.frame;
      order = order;
      cell = record { board = shown.board; first = page_index shown.board.shape shown.home shown.frame; count = 2 ^ order; held = slab_held shown.slab.class };
    }

-- a node with slabs: the node in it; its vectors, each that is in with its cells; for each frame the slab that begins there, or none
pub record SlabNodeShown : Type 0 where
  pub node : NodeShown
  pub vectors : VectorsShown
  pub slabs : List (Option SlabShown)

-- the node of the meaning
abbrev pub state_of : SlabNodeShown → NodeState
state_of node = record {
  node = node.node.node;
  slabs = map (option_map (λ (s : SlabShown). s.slab)) node.slabs;
  vectors = map is_none node.vectors.pools;
}

-- the node in it is that of its CPU, has a frame for each slab entry, and all cells are of one table
pub record Stands (node : SlabNodeShown) : Type 0 where
  pub own : node.node.node.cpu ≡ node.vectors.cpu
  pub frames : length node.node.node.frames ≡ length node.slabs
  pub slab_cells : (frame : ℕ) (slab : SlabShown) → slice_get node.slabs frame ≡ Some (Some slab) → slab.board ≡ node.node.board
  pub vector_cells : (number : ℕ) (pool : PoolShown) → slice_get node.vectors.pools number ≡ Some (Some pool) → pool.board ≡ node.node.board

-- the node as it is, with this as its meaning: its CPU and its table stay, and it stands
pub record IsNow (state : NodeState) (node after : SlabNodeShown) : Type 0 where
  pub is : state_of after ≡ state
  pub board : after.node.board ≡ node.node.board
  pub cpu : after.vectors.cpu ≡ node.vectors.cpu
  pub stands : Stands after

-- ---- objects

-- an object in a slab: with a vector it has a cell, and else none
abbrev pub in_slab : ℕ → ℕ → ℕ → Option PlaceCell → Storage
in_slab home frame place None = storage.Uncounted home frame place
in_slab home frame place (Some cell) = storage.Object home frame place cell.vector cell.seat.held

abbrev pub storage_of : Stored → Storage
storage_of (Pages block) = storage.Pages (block_of block)
storage_of (InSlab place) = in_slab place.home place.frame place.place place.cell

-- a large object is a block
abbrev pub is_block : Stored → Bool
is_block (Pages block) = true
is_block (InSlab place) = false

-- its cell, if it has one
abbrev pub cell_of : Stored → Option CellShown
cell_of (Pages block) = Some block.cell
cell_of (InSlab place) = option_map (λ (c : PlaceCell). c.seat) place.cell

-- the seat has just the cell of the place in the vector
pub record IsCellOf (place : Place) (cell : PlaceCell) : Type 0 where
  pub first : cell.seat.first ≡ object_index cell.seat.board.shape place.home cell.vector place.place
  pub count : cell.seat.count ≡ 1

abbrev pub HasOwnCell : Place → Option PlaceCell → Type 0
HasOwnCell place None = ⊤
HasOwnCell place (Some cell) = IsCellOf place cell

-- a block has the cells of its frames, and an object that has a cell has that of its place
abbrev pub Suits : Stored → Type 0
Suits (Pages block) = Fits block
Suits (InSlab place) = HasOwnCell place place.cell

abbrev pub IsOfTable : Board → Option CellShown → Type 0
IsOfTable board None = ⊤
IsOfTable board (Some cell) = cell.board ≡ board

-- the cell, where there is one, isn't free
abbrev pub IsLive : Option CellShown → Type 0
IsLive None = ⊤
IsLive (Some cell) = cell.held ≡ held.None → ⊥

-- the place with another reference in its cell, if it has one
abbrev pub with_reference : Held → Place → Place
with_reference h place = record place { cell = option_map (λ (c : PlaceCell). record c { seat = record c.seat { held = h } }) place.cell }

-- the same without its reference
abbrev pub freed : Stored → Stored
freed (Pages block) = Pages (holding held.None block)
freed (InSlab place) = InSlab (with_reference held.None place)
