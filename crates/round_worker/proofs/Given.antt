-- What is given holds a reference or the mark, if it has a cell.
use Rattle.std.proofs.Common.{◌≡◌, ℕ, ◌≢◌, Option, Some, None, IfSome, is_some, refl, sym, subst}
use Rattle.std.specs.Prelude.{⊤, option_map}
use Rattle.tag_model.specs.declared.state.Tag.{Tag}
use Rattle.tag_model.specs.declared.state.Held.TheVariants as held
use Rattle.tag_model.specs.RefMoves.{reference_to}
use Rattle.page_ext.specs.Blocks.{page_bytes}
use Rattle.slab_cache.specs.Classes.{class_of, order_of, slab_order}
use Rattle.slab_cache.specs.Slabs.{Slab, NodeState, free_place, lowest_vector, open_frame, slab_at, new_slab}
use Rattle.slab_cache.specs.Storage as storage
use Rattle.slab_cache.specs.Storage.{Storage, has_cell, object_at}
use Rattle.slab_cache.specs.Giving.{Given, block_from, given_object, object_from, object_from_new, object_or_block, slab_or_new, start_in, with_new_slab}
use Rattle.slab_cache.specs.declared.place.Place.{Place}
use Rattle.slab_cache.specs.declared.place.PlaceCell.{PlaceCell}
use Rattle.slab_cache.specs.declared.object.Stored.{Stored}
use Rattle.slab_cache.specs.declared.object.Stored.TheVariants.{Pages, InSlab}
use Rattle.slab_cache.specs.Shown.{IsLive, cell_of, in_slab, storage_of}
use Rattle.round_worker.proofs.Keeps.{counts_some}

abbrev pub HoldsSome : Storage → Type 0
HoldsSome (storage.Pages block) = block.holds ≢ held.None
HoldsSome (storage.Object home frame place vector holds) = holds ≢ held.None
HoldsSome (storage.Uncounted home frame place) = ⊤

abbrev GivesSome : Option Given → Type 0
GivesSome given = IfSome given (λ g. HoldsSome g.storage)

module _ (tag : Option Tag) (node : NodeState) where
  by_vector : (home frame place size : ℕ) (vector : Option ℕ) → HoldsSome (object_at home frame place vector (reference_to tag size))
  by_vector home frame place size None = tt
  by_vector home frame place size (Some vector) = counts_some tag size (reference_to tag size) refl

  by_block : (order : ℕ) (start : Option ℕ) → GivesSome (option_map (block_from tag order node) start)
  by_block order None = tt
  by_block order (Some start) = counts_some tag (page_bytes order) (reference_to tag (page_bytes order)) refl

  by_slab : (class frame : ℕ) (slab : Option Slab) → GivesSome (option_map (object_from tag class frame node) slab)
  by_slab class frame None = tt
  by_slab class frame (Some slab) = by_vector node.node.cpu frame (free_place slab) class slab.vector

  by_new : (class : ℕ) (start : Option ℕ) → GivesSome (option_map (object_from_new tag class node) start)
  by_new class None = tt
  by_new class (Some start) = by_vector (with_new_slab class start node).node.cpu start (free_place (new_slab class (lowest_vector node))) class (lowest_vector node)

  by_frame : (class : ℕ) (frame : Option ℕ) → GivesSome (slab_or_new tag class node frame)
  by_frame class None = by_new class (start_in (slab_order class) node)
  by_frame class (Some frame) = by_slab class frame (slab_at frame node)

  by_class : (size : ℕ) (class : Option ℕ) → GivesSome (object_or_block tag size node class)
  by_class size None = by_block (order_of size) (start_in (order_of size) node)
  by_class size (Some class) = by_frame class (open_frame class node)

  pub given_holds : (size : ℕ) (given : Given) → given_object tag size node ≡ Some given → HoldsSome given.storage
  given_holds size given is = subst GivesSome is (by_class size (class_of size))

by_cell : (place : Place) (cell : Option PlaceCell) → HoldsSome (in_slab place.home place.frame place.place cell) → IsLive (cell_of (InSlab (record place { cell = cell })))
by_cell place None h = tt
by_cell place (Some cell) h = h

live_so : (stored : Stored) → HoldsSome (storage_of stored) → IsLive (cell_of stored)
live_so (Pages block) h = h
live_so (InSlab place) h = by_cell place place.cell h

pub given_live : (tag : Option Tag) (node : NodeState) (size : ℕ) (given : Given) (stored : Stored) → given_object tag size node ≡ Some given → storage_of stored ≡ given.storage → IsLive (cell_of stored)
given_live tag node size given stored is same = live_so stored (subst HoldsSome (sym same) (given_holds tag node size given is))

-- ---- whether there is a cell

has_place_cell : (place : Place) (cell : Option PlaceCell) → has_cell (in_slab place.home place.frame place.place cell) ≡ is_some (option_map (λ (c : PlaceCell). c.seat) cell)
has_place_cell place None = refl
has_place_cell place (Some cell) = refl

pub cell_there : (stored : Stored) → has_cell (storage_of stored) ≡ is_some (cell_of stored)
cell_there (Pages block) = refl
cell_there (InSlab place) = has_place_cell place place.cell
