-- The words of cells, of seats one after the other, are those of the references by cell.
use Rattle.std.proofs.Common.{◌≡◌, ℕ, suc, ◌+◌, Bool, true, false, cond, eqb, List, [], ◌∷◌, ◌++◌, map, Option, Some, None, All, slice_get, refl, sym, ap, ap₂, ◌∙◌, subst, arith}
use Rattle.std.specs.List.{enumerate_from, flat_map}
use Rattle.std.specs.Option.{option_and_then, option_map, option_or}
use Rattle.std.proofs.lemmas.List.Elements.{All-head, All-tail}
use Rattle.std.proofs.lemmas.List.Folds.{find-append}
use Rattle.tag_model.specs.declared.shape.Shape.{Shape}
use Rattle.tag_model.specs.declared.state.Held.{Held}
use Rattle.tag_model.specs.Index.{Slot, Page, index_of, object_index, page_index}
use Rattle.tag_model.specs.Index.{Object as ObjectSlot}
use Rattle.tag_model.specs.RefWord.{held_word}
use Rattle.tag_model.specs.Shape.{IsChecked}
use Rattle.tag_rule.specs.Shown.{Board, CellShown}
use Rattle.page_ext.specs.Shown.{BlockShown, Fits}
use Rattle.slab_cache.specs.Shown.{HasOwnCell, IsOfTable, SlabShown, cell_of, in_slab, slab_block, storage_of}
use Rattle.slab_cache.specs.Slabs.{Slab}
use Rattle.slab_cache.specs.declared.object.Stored as slab
use Rattle.slab_cache.specs.declared.object.Stored.TheVariants.{Pages, InSlab}
use Rattle.slab_cache.specs.declared.place.Place.{Place}
use Rattle.slab_cache.specs.declared.place.PlaceCell.{PlaceCell}
use Rattle.trace_play.specs.Left.{found_at, word_at}
use Rattle.trace_play.specs.Machine.{content_cell, slab_cell, storage_cell}
use Rattle.round_worker.specs.Cells.{IsOfChecked, first_some, kept_seat, kept_word, seat_word, slab_word}
use Rattle.round_worker.specs.Kept.{IsKept, IsKeptObject, content_of}
use Rattle.round_worker.specs.declared.keys.Kept.{Kept}
use Rattle.round_worker.specs.declared.keys.Kept.TheVariants.{Nothing, Block, Object}

-- ---- one reference, and one list behind another

mapped_or : {X Y : Type 0} (f : X → Y) (a b : Option X) → option_map f (option_or a b) ≡ option_or (option_map f a) (option_map f b)
mapped_or f None b = refl
mapped_or f (Some x) b = refl

abbrev word_in : Slot × Held → ℕ
word_in entry = held_word entry.1

pub more_found : (k : Shape) (index : ℕ) (xs ys : List (Slot × Held)) → word_at k index (xs ++ ys) ≡ option_or (word_at k index xs) (word_at k index ys)
more_found k index xs ys =
    ap (option_map word_in) (find-append (λ (e : Slot × Held). eqb (index_of k e.0) index) xs ys) ∙ mapped_or word_in (found_at k index xs) (found_at k index ys)

one_found : (k : Shape) (index : ℕ) (slot : Slot) (seat : CellShown) → seat.first ≡ index_of k slot → seat_word index seat ≡ word_at k index ((slot, seat.held) ∷ [])
one_found k index slot seat same =
    ap (λ n. cond (eqb n index) (Some (held_word seat.held)) None) same ∙ by (eqb (index_of k slot) index)
  where
    by : (b : Bool) → cond b (Some (held_word seat.held)) None ≡ option_map word_in (cond b (Some (slot, seat.held)) None)
    by true = refl
    by false = refl

-- the first of some lists that has the cell
pub all_found : {X : Type 0} (k : Shape) (index : ℕ) (give : X → Option ℕ) (cells : X → List (Slot × Held)) (xs : List X) → All (λ x. give x ≡ word_at k index (cells x)) xs
    → first_some give xs ≡ word_at k index (flat_map cells xs)
all_found k index give cells [] each = refl
all_found k index give cells (x ∷ xs) each =
    ap₂ option_or (All-head (λ x. give x ≡ word_at k index (cells x)) x xs each) (all_found k index give cells xs (All-tail (λ x. give x ≡ word_at k index (cells x)) x xs each))
    ∙ sym (more_found k index (cells x) (flat_map cells xs))

-- ---- slabs

-- a slab's block has its cell
slab_found : (k : Shape) (index cpu frame : ℕ) (slab : SlabShown) → slab.board.shape ≡ k → slab.home ≡ cpu → slab.frame ≡ frame
    → slab_word index (Some slab) ≡ word_at k index (slab_cell cpu frame (Some slab.slab))
slab_found k index cpu frame slab shape home begins =
    one_found k index (Page cpu frame) (slab_block slab).cell (λ i. page_index (shape i) (home i) (begins i))

-- the slabs of a list begin at the frames from one on, and are of a CPU of a table of the shape
pub record StandsIn (k : Shape) (cpu from : ℕ) (slabs : List (Option SlabShown)) : Type 0 where
  pub each : (i : ℕ) (slab : SlabShown) → slice_get slabs i ≡ Some (Some slab) → (slab.board.shape ≡ k) × (slab.home ≡ cpu) × (slab.frame ≡ from + i)

abbrev pub cells_from : ℕ → ℕ → List (Option SlabShown) → List (Slot × Held)
cells_from cpu from slabs = flat_map (λ (entry : ℕ × Option Slab). slab_cell cpu entry.0 entry.1) (enumerate_from from (map (option_map (λ (s : SlabShown). s.slab)) slabs))

pub slabs_found : (k : Shape) (index cpu from : ℕ) (slabs : List (Option SlabShown)) → StandsIn k cpu from slabs → first_some (slab_word index) slabs ≡ word_at k index (cells_from cpu from slabs)
slabs_found k index cpu from [] stands = refl
slabs_found k index cpu from (slab ∷ slabs) stands =
    let rest : StandsIn k cpu (from + 1) slabs = record {
      each = λ i s at. let h = stands.each (suc i) s at in (h.0, h.1, h.2 ∙ (omega arith));
    } in
    ap₂ option_or (by slab (λ s here. stands.each 0 s (ap Some here))) (slabs_found k index cpu (from + 1) slabs rest)
    ∙ sym (more_found k index (slab_cell cpu from (option_map (λ (s : SlabShown). s.slab) slab)) (cells_from cpu (from + 1) slabs))
  where
    by : (slab : Option SlabShown) → ((s : SlabShown) → slab ≡ Some s → (s.board.shape ≡ k) × (s.home ≡ cpu) × (s.frame ≡ from + 0))
        → slab_word index slab ≡ word_at k index (slab_cell cpu from (option_map (λ (s : SlabShown). s.slab) slab))
    by None h = refl
    by (Some s) h = let at = h s refl in slab_found k index cpu from s at.0 at.1 (at.2 ∙ (omega arith))

-- ---- keys

block_found : (board : Board) (index : ℕ) (block : BlockShown) → block.cell.board ≡ board → Fits block
    → seat_word index block.cell ≡ word_at board.shape index ((Page block.home block.frame, block.cell.held) ∷ [])
block_found board index block table fits =
    one_found board.shape index (Page block.home block.frame) block.cell (fits.first ∙ ap (λ (b : Board). page_index b.shape block.home block.frame) table)

place_found : (board : Board) (index : ℕ) (place : Place) (cell : Option PlaceCell) → IsOfTable board (option_map (λ (c : PlaceCell). c.seat) cell) → HasOwnCell place cell
    → option_and_then (seat_word index) (option_map (λ (c : PlaceCell). c.seat) cell) ≡ word_at board.shape index (storage_cell (in_slab place.home place.frame place.place cell))
place_found board index place None table own = refl
place_found board index place (Some c) table own =
    one_found board.shape index (ObjectSlot place.home c.vector place.place) c.seat (own.first ∙ ap (λ (b : Board). object_index b.shape place.home c.vector place.place) table)

pub kept_found : (board : Board) (index : ℕ) (kept : Kept) → IsKept board kept → kept_word index kept ≡ word_at board.shape index (content_cell (content_of kept))
kept_found board index (Nothing order) own = refl
kept_found board index (Block block) own = block_found board index block own.0 own.1
kept_found board index (Object obj) own = by obj.stored own.0
  where
    by : (stored : slab.Stored) → IsKeptObject board stored → option_and_then (seat_word index) (cell_of stored) ≡ word_at board.shape index (storage_cell (storage_of stored))
    by (Pages block) own = block_found board index block own.0 own.1
    by (InSlab place) own = place_found board index place place.cell own.0 own.1

-- the tables are of a checked shape
pub kept_checked : (board : Board) (kept : Kept) → IsChecked board.shape → IsKept board kept → IsOfChecked (kept_seat kept)
kept_checked board (Nothing order) ok own = tt
kept_checked board (Block block) ok own = subst (λ (b : Board). IsChecked b.shape) (sym own.0) ok
kept_checked board (Object obj) ok own = by (cell_of obj.stored) own.0.0
  where
    by : (seat : Option CellShown) → IsOfTable board seat → IsOfChecked seat
    by None table = tt
    by (Some s) table = subst (λ (b : Board). IsChecked b.shape) (sym table) ok
