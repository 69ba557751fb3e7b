-- What the calls give, and what they need of the storage that they are given.
use Rattle.std.specs.List.{list_any}
use Rattle.std.specs.Prelude.{ℕ, ◌≡◌, ◌+◌, ◌^◌, ◌≤◌, IsTrue, not, true, false, Option, Some, None, List, ◌++◌, length, slice_get, if◌then◌else◌}
use Rattle.tag_model.specs.Moves.{Move}
use Rattle.tag_model.specs.RefMoves.{open_moves}
use Rattle.tag_rule.specs.Shown.{CpuShown}
use Rattle.tag_ref.specs.Refs.{moved_by}
use Rattle.page_ext.specs.Shown.{BlockShown, Fits}
use Rattle.slab_cache.specs.Classes.{slab_order}
use Rattle.slab_cache.specs.Slabs.{Slab, NodeState, free_place, is_used, lowest_vector, new_slab, slab_at, slab_held, with_place, with_slab, with_vector}
use Rattle.slab_cache.specs.Storage.{Storage, Pages, Object, Uncounted}
use Rattle.slab_cache.specs.Giving.{Given, start_in, with_new_slab}
use Rattle.slab_cache.specs.Homing.{come_home}
use Rattle.slab_cache.specs.Shown.{SlabNodeShown, SlabShown, Stands, state_of, IsNow, storage_of, cell_of, Suits, IsOfTable}
use Rattle.slab_cache.specs.Tables.{IsSlabAt, place_in}
use Rattle.slab_cache.specs.declared.object.Obj.{Obj}
use Rattle.slab_cache.specs.declared.place.Place.{Place}

-- the most bytes of an object: those of a block of order 10
abbrev pub most_bytes : ℕ
most_bytes = 4194304

-- the CPU's own node, of its table, with its slabs in order, and nothing in the CPU's hand
pub record IsAtHome (cpu : CpuShown) (node : SlabNodeShown) : Type 0 where
  pub table : node.node.board ≡ cpu.board
  pub own : node.vectors.cpu ≡ cpu.part.number
  pub stands : Stands node
  pub hand : cpu.part.hand ≡ None

-- the call gives what was meant: that object, the node is then that node, and the CPU's words moved by those moves
pub record Gives (meant : Option Given) (node after : SlabNodeShown) (cpu cpu_after : CpuShown) (obj : Obj) : Type 0 where
  pub given : Given
  pub is : meant ≡ Some given
  pub object : storage_of obj.stored ≡ given.storage
  pub suits : Suits obj.stored
  pub table : IsOfTable cpu.board (cell_of obj.stored)
  pub becomes : IsNow given.node node after
  pub moves : cpu_after ≡ moved_by given.moves cpu

-- a slab was made at the least start, and its block counts under the slab allocator's own tag
pub record MakesSlab (class : ℕ) (node after : SlabNodeShown) (cpu cpu_after : CpuShown) (frame : ℕ) : Type 0 where
  pub start : start_in (slab_order class) (state_of node) ≡ Some frame
  pub becomes : IsNow (with_new_slab class frame (state_of node)) node after
  pub moves : cpu_after ≡ moved_by (open_moves cpu.part.number (slab_held class)) cpu

-- the block is that of a slab of the class in the node
pub record IsSlabBlock (class : ℕ) (node : SlabNodeShown) (block : BlockShown) : Type 0 where
  pub board : block.cell.board ≡ node.node.board
  pub home : block.home ≡ node.vectors.cpu
  pub order : block.order ≡ slab_order class
  pub holds : block.cell.held ≡ slab_held class
  pub fits : Fits block
  pub within : block.frame + 2 ^ slab_order class ≤ length node.slabs

-- the node with a slab at frames that are taken already, which has the lowest vector that is in
abbrev pub with_made_slab : ℕ → ℕ → NodeState → NodeState
with_made_slab class frame node = let vector = lowest_vector node in with_slab frame (Some (new_slab class vector)) (with_vector true vector node)

-- the lowest free place of the slab at the frame is taken, and its cell, if it has one, holds nothing
pub record TakesPlaceOf (frame : ℕ) (node after : SlabNodeShown) (place : Place) : Type 0 where
  pub slab : Slab
  pub here : slab_at frame (state_of node) ≡ Some slab
  pub given : place ≡ place_in (record { board = node.node.board; home = node.vectors.cpu; frame = frame; slab = slab }) (free_place slab)
  pub becomes : IsNow (with_slab frame (Some (with_place true (free_place slab) slab)) (state_of node)) node after

-- a slab of the class begins there that has a free place
pub record IsOpenIn (class frame : ℕ) (node : NodeState) : Type 0 where
  pub slab : Slab
  pub here : slab_at frame node ≡ Some slab
  pub is_class : slab.class ≡ class
  pub has_free : IsTrue (list_any not slab.places)

-- ---- storage

-- a taken place of a slab of the node, which has this vector, or none
pub record IsPlace (frame place : ℕ) (vector : Option ℕ) (node : NodeState) : Type 0 where
  pub slab : Slab
  pub here : slab_at frame node ≡ Some slab
  pub taken : slice_get slab.places place ≡ Some true
  pub has : slab.vector ≡ vector

-- storage of the node
abbrev pub IsOf : NodeState → Storage → Type 0
IsOf node (Pages block) = block.frame + 2 ^ block.order ≤ length node.node.frames
IsOf node (Object home frame place vector holds) = IsPlace frame place (Some vector) node
IsOf node (Uncounted home frame place) = IsPlace frame place None node

-- storage came home; some moves were before
pub record ComesHome (storage : Storage) (before : List Move) (node after : SlabNodeShown) (cpu cpu_after : CpuShown) : Type 0 where
  pub becomes : IsNow (come_home storage (state_of node)).node node after
  pub moves : cpu_after ≡ moved_by (before ++ (come_home storage (state_of node)).moves) cpu

-- the slab that begins at the place's frame has lost the place: it stays if an object is in it, and else is taken out
pub record ReturnsPlace (place : Place) (node after : SlabNodeShown) (gone : Option SlabShown) : Type 0 where
  pub slab : Slab
  pub here : slab_at place.frame (state_of node) ≡ Some slab
  pub becomes : IsNow (with_slab place.frame (if is_used (with_place false place.place slab) then Some (with_place false place.place slab) else None) (state_of node)) node after
  pub goes : gone ≡ (if is_used (with_place false place.place slab) then None else Some (record { board = node.node.board; home = node.vectors.cpu; frame = place.frame; slab = with_place false place.place slab }))
  pub at : IsSlabAt node.vectors.cpu (length node.slabs) (length node.vectors.pools) place.frame (record { board = node.node.board; home = node.vectors.cpu; frame = place.frame; slab = with_place false place.place slab })
  pub many : (length after.slabs ≡ length node.slabs) × (length after.vectors.pools ≡ length node.vectors.pools)
