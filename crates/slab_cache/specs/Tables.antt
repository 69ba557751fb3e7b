-- How a node keeps its slabs: sets of bits, and what holds of them. No contract that others see speaks of it.
use Rattle.std.specs.Prelude.{ℕ, ◌≡◌, ◌+◌, ◌^◌, ◌<◌, ◌≤◌, ◌⊎◌, ◌&&◌, ◌||◌, not, IsTrue, Bool, true, false, Option, Some, None, List, length, map, option_map, slice_get, slice_set, if◌then◌else◌}
use Rattle.std.specs.Int.{bit_at}
use Rattle.std.specs.List.{list_any}
use Rattle.tag_model.specs.declared.state.Held.TheVariants as held
use Rattle.tag_model.specs.Index.{object_index}
use Rattle.tag_model.specs.Shape.{IsChecked}
use Rattle.tag_model.specs.WordState.{in_range}
use Rattle.tag_rule.specs.Shown.{Board, PoolShown, has}
use Rattle.page_ext.specs.Shown.{BlockShown, Fits}
use Rattle.slab_ext.specs.Vectors.{VectorShown, VectorsShown}
use Rattle.slab_cache.specs.Bits.{class_at, places_of}
use Rattle.slab_cache.specs.Classes.{classes, slab_order, objects_in}
use Rattle.slab_cache.specs.Slabs.{Slab, is_open, is_used, free_place, with_place}
use Rattle.slab_cache.specs.Shown.{SlabShown, slab_block}
use Rattle.slab_cache.specs.declared.place.Place.{Place}
use Rattle.slab_cache.specs.declared.place.PlaceCell.{PlaceCell}

-- ---- a slab

-- the vector is of the table and of the shape, and each cell of it that no object has is in its pool
pub record HasFree (board : Board) (home objects free : ℕ) (vector : VectorShown) : Type 0 where
  pub table : vector.pool.board ≡ board
  pub in_shape : vector.number < board.shape.vectors
  pub cells : (place : ℕ) → place < 64 → (bit_at free place ≡ 1) ⊎ (objects ≤ place) → IsTrue (has vector.pool (object_index board.shape home vector.number place))

-- the slab as it is shown
abbrev pub shown_slab : ℕ → ℕ → BlockShown → Option VectorShown → SlabShown
shown_slab class free block vector = record {
  board = block.cell.board;
  home = block.home;
  frame = block.frame;
  slab = record { class = class_at class; places = places_of (objects_in (class_at class)) free; vector = option_map (λ (v : VectorShown). v.number) vector };
}

pub record IsSlab (class free : ℕ) (block : BlockShown) (vector : Option VectorShown) : Type 0 where
  pub own : block ≡ slab_block (shown_slab class free block vector)
  pub fits : Fits block
  pub beyond : (i : ℕ) → objects_in (class_at class) ≤ i → bit_at free i ≡ 0
  pub cells : (v : VectorShown) → vector ≡ Some v → HasFree block.cell.board block.home (objects_in (class_at class)) free v

-- the place of a slab that an object gets, with its cell if the slab has a vector
abbrev pub place_in : SlabShown → ℕ → Place
place_in shown place = record {
  home = shown.home;
  frame = shown.frame;
  place = place;
  cell = option_map (λ vector. record { vector = vector; seat = record { board = shown.board; first = object_index shown.board.shape shown.home vector place; count = 1; held = held.None } }) shown.slab.vector;
}

-- the slab with another state of its places
abbrev pub with_slab_state : Slab → SlabShown → SlabShown
with_slab_state slab shown = record shown { slab = slab }

-- ---- a cell of a vector goes out, and comes back

pub record HasCell (home place : ℕ) (vector : VectorShown) : Type 0 where
  pub checked : IsChecked vector.pool.board.shape
  pub one : home < vector.pool.board.shape.cpus
  pub in_shape : vector.number < vector.pool.board.shape.vectors
  pub there : IsTrue (has vector.pool (object_index vector.pool.board.shape home vector.number place))

pub record TakesCell (home place : ℕ) (vector after : VectorShown) (cell : PlaceCell) : Type 0 where
  pub taken : cell ≡ record { vector = vector.number; seat = record { board = vector.pool.board; first = object_index vector.pool.board.shape home vector.number place; count = 1; held = held.None } }
  pub number : after.number ≡ vector.number
  pub board : after.pool.board ≡ vector.pool.board
  pub cells : (n : ℕ) → has after.pool n ≡ (has vector.pool n && not (in_range (object_index vector.pool.board.shape home vector.number place) 1 n))

-- where there is a vector
pub data TakesOne (home place : ℕ) : Option VectorShown → Option VectorShown → Option PlaceCell → Type 0 where
  NoCell : TakesOne home place None None None
  OneCell : {vector after : VectorShown} {cell : PlaceCell} → TakesCell home place vector after cell → TakesOne home place (Some vector) (Some after) (Some cell)

pub record FitsCell (vector : VectorShown) (cell : PlaceCell) : Type 0 where
  pub table : cell.seat.board ≡ vector.pool.board
  pub none : cell.seat.held ≡ held.None

pub record GivesCell (vector : VectorShown) (cell : PlaceCell) (after : VectorShown) : Type 0 where
  pub number : after.number ≡ vector.number
  pub board : after.pool.board ≡ vector.pool.board
  pub cells : (n : ℕ) → has after.pool n ≡ (has vector.pool n || in_range cell.seat.first cell.seat.count n)

pub data FitsOne : Option VectorShown → Option PlaceCell → Type 0 where
  NoneFits : FitsOne None None
  OneFits : {vector : VectorShown} {cell : PlaceCell} → FitsCell vector cell → FitsOne (Some vector) (Some cell)

pub data GivesOne : Option VectorShown → Option PlaceCell → Option VectorShown → Type 0 where
  NoneGiven : GivesOne None None None
  OneGiven : {vector after : VectorShown} {cell : PlaceCell} → GivesCell vector cell after → GivesOne (Some vector) (Some cell) (Some after)

-- ---- all slabs of a node

abbrev pub slab_in : Option SlabShown → Option Slab
slab_in = option_map (λ (s : SlabShown). s.slab)

-- whether it is an open slab of the class
abbrev pub is_open_slab : ℕ → Option SlabShown → Bool
is_open_slab class slab = is_open class (slab_in slab)

-- at which frames an open slab of the class begins
abbrev pub open_at : List (Option SlabShown) → ℕ → List Bool
open_at slabs class = map (is_open_slab class) slabs

-- for each class a set of the frames of its open slabs
pub record IsTable (slabs : List (Option SlabShown)) (sets : List (List Bool)) : Type 0 where
  pub few : length slabs ≤ 1024
  pub by_class : sets ≡ map (open_at slabs) classes

-- each slab begins at its frame, is of the CPU, lies in the frames and has a vector of the CPU, if one
pub record IsSlabAt (cpu frames vectors frame : ℕ) (slab : SlabShown) : Type 0 where
  pub home : slab.home ≡ cpu
  pub begins : slab.frame ≡ frame
  pub within : frame + 2 ^ slab_order slab.slab.class ≤ frames
  pub vector : (number : ℕ) → slab.slab.vector ≡ Some number → number < vectors

abbrev pub AreSlabs : VectorsShown → List (Option SlabShown) → Type 0
AreSlabs vectors slabs = (frame : ℕ) (slab : SlabShown) → slice_get slabs frame ≡ Some (Some slab) → IsSlabAt vectors.cpu (length slabs) (length vectors.pools) frame slab

-- ---- an object's place is taken, and comes back

pub record IsOpenAt (frame : ℕ) (slabs : List (Option SlabShown)) : Type 0 where
  pub slab : SlabShown
  pub here : slice_get slabs frame ≡ Some (Some slab)
  pub checked : IsChecked slab.board.shape
  pub has_free : IsTrue (list_any not slab.slab.places)

-- the slab that was there has its lowest free place taken
pub record TakesPlace (frame : ℕ) (slabs after : List (Option SlabShown)) (place : Place) : Type 0 where
  pub slab : SlabShown
  pub here : slice_get slabs frame ≡ Some (Some slab)
  pub given : place ≡ place_in slab (free_place slab.slab)
  pub now : after ≡ slice_set slabs frame (Some (with_slab_state (with_place true (free_place slab.slab) slab.slab) slab))

-- the place is one of the slab that begins there, is taken, and its cell holds nothing
pub record HasPlace (slabs : List (Option SlabShown)) (place : Place) : Type 0 where
  pub slab : SlabShown
  pub here : slice_get slabs place.frame ≡ Some (Some slab)
  pub own : place ≡ place_in slab place.place
  pub taken : slice_get slab.slab.places place.place ≡ Some true

abbrev pub slab_without : ℕ → SlabShown → SlabShown
slab_without place slab = with_slab_state (with_place false place slab.slab) slab

-- the slab has its place free again; what is left in it is told
pub record GetsPlace (slabs : List (Option SlabShown)) (place : Place) (after : List (Option SlabShown)) (left : Bool) : Type 0 where
  pub slab : SlabShown
  pub here : slice_get slabs place.frame ≡ Some (Some slab)
  pub now : after ≡ slice_set slabs place.frame (Some (slab_without place.place slab))
  pub used : left ≡ is_used (slab_without place.place slab).slab

pub record LosesPlace (slabs : List (Option SlabShown)) (place : Place) (after : List (Option SlabShown)) (empty : Option SlabShown) : Type 0 where
  pub slab : SlabShown
  pub here : slice_get slabs place.frame ≡ Some (Some slab)
  pub now : after ≡ slice_set slabs place.frame (if is_used (slab_without place.place slab).slab then Some (slab_without place.place slab) else None)
  pub gone : empty ≡ (if is_used (slab_without place.place slab).slab then None else Some (slab_without place.place slab))

-- the pools with that of a vector that came back, if there was one
abbrev pub with_back : Option VectorShown → List (Option PoolShown) → List (Option PoolShown)
with_back None pools = pools
with_back (Some vector) pools = slice_set pools vector.number (Some vector.pool)
