-- A slab, as it is shown, while its bits and its vector change.
use Rattle.std.proofs.Common.{ℕ, ◌≡◌, ◌≢◌, ◌-◌, ◌^◌, ◌<◌, ◌==◌, ◌&&◌, Bool, true, false, not, IsTrue, IfSome, List, slice_get, slice_set, Option, Some, None, option_map, refl, sym, ap, ◌∙◌, subst, inl, inr, arith, w64}
use Rattle.std.specs.Int.{bit_at, trailing_zeros}
use Rattle.std.specs.List.{list_any}
use Rattle.std.proofs.lemmas.Bool.{cases_eq, eq-eqb, false≢true}
use Rattle.std.proofs.lemmas.Nat.Bits.{bit_at_ones, bit_at_ones_above}
use Rattle.std.proofs.lemmas.Option.{same_Some, none-some, slice_get_within}
use Rattle.tag_model.specs.declared.state.Held.TheVariants as held
use Rattle.tag_model.specs.Index.{object_index}
use Rattle.tag_rule.specs.Shown.{Board}
use Rattle.page_ext.specs.Shown.{BlockShown, Fits}
use Rattle.slab_ext.specs.Vectors.{IsWhole, VectorShown}
use Rattle.slab_cache.specs.Bits.{class_at, places_of}
use Rattle.slab_cache.specs.Classes.{objects_in}
use Rattle.slab_cache.specs.Shown.{SlabShown, slab_block}
use Rattle.slab_cache.specs.Slabs.{free_place, is_used, new_slab, with_place}
use Rattle.slab_cache.specs.Tables.{FitsOne, NoneFits, OneFits, GivesOne, NoneGiven, OneGiven, HasFree, IsSlab, TakesOne, NoCell, OneCell, place_in, shown_slab, with_slab_state}
use Rattle.slab_cache.specs.declared.place.Place.{Place}
use Rattle.slab_cache.specs.declared.place.PlaceCell.{PlaceCell}
use Rattle.slab_cache.proofs.Cells.{all_in, free_after_give, free_after_take, whole_free}
use Rattle.slab_cache.proofs.ClassLemmas.{classes_differ, objects_few}
use Rattle.slab_cache.proofs.Marks.{length_marks}
use Rattle.slab_cache.proofs.NodeLemmas.{number_in}
use Rattle.slab_cache.proofs.Places.{Gives, Lowest, Takes, all_set, any_free, any_taken, fits_word, lowest}

abbrev CellsOf : Board → ℕ → ℕ → ℕ → Option VectorShown → Type 0
CellsOf board home objects free vector = (v : VectorShown) → vector ≡ Some v → HasFree board home objects free v

-- ---- what is read

pub open_is : (class other free : ℕ) (block : BlockShown) (vector : Option VectorShown) (shown : SlabShown) → shown_slab class free block vector ≡ shown → IsSlab class free block vector → class ≡ other
    → not (free == 0) ≡ ((shown.slab.class == class_at other) && list_any not shown.slab.places)
open_is class other free block vector shown is slab same =
    subst (λ (s : SlabShown). not (free == 0) ≡ ((s.slab.class == class_at other) && list_any not s.slab.places)) is
    (sym (any_free (objects_in (class_at class)) free slab.beyond (fits_word _ free (objects_few (class_at class)) slab.beyond))
    ∙ ap (λ b. b && list_any not (places_of (objects_in (class_at class)) free)) (sym (eq-eqb (class_at class) (class_at other) (ap class_at same))))

pub not_open : (class other free : ℕ) (block : BlockShown) (vector : Option VectorShown) (shown : SlabShown) (b : Bool) → shown_slab class free block vector ≡ shown → class < 13 → other < 13 → class ≢ other → b ≡ false
    → b ≡ ((shown.slab.class == class_at other) && list_any not shown.slab.places)
not_open class other free block vector shown b is small few ne never =
    subst (λ (s : SlabShown). b ≡ ((s.slab.class == class_at other) && list_any not s.slab.places)) is
    (never ∙ ap (λ c. c && list_any not (places_of (objects_in (class_at class)) free)) (sym (classes_differ class other small few ne)))

pub used_is : (class free all : ℕ) (block : BlockShown) (vector : Option VectorShown) (shown : SlabShown) → shown_slab class free block vector ≡ shown → IsSlab class free block vector → all ≡ 2 ^ objects_in (class_at class) - 1
    → not (free == all) ≡ is_used shown.slab
used_is class free all block vector shown is slab whole =
    subst (λ (s : SlabShown). not (free == all) ≡ is_used s.slab) is
    (ap (λ n. not (free == n)) whole ∙ sym (any_taken (objects_in (class_at class)) free (objects_few (class_at class)) slab.beyond (fits_word _ free (objects_few (class_at class)) slab.beyond)))

-- ---- a new slab

pub new_is : (class free : ℕ) (block : BlockShown) (vector : Option VectorShown)
    → block ≡ slab_block (record { board = block.cell.board; home = block.home; frame = block.frame; slab = new_slab (class_at class) (number_in vector) }) → Fits block
    → IfSome vector (λ v. v.pool.board ≡ block.cell.board) → IfSome vector (λ v. IsWhole block.home v.number v.pool) → free ≡ 2 ^ objects_in (class_at class) - 1
    → IsSlab class free block vector
new_is class free block vector own fits table whole is = record {
  own = own;
  fits = fits;
  beyond = λ i past. ap (λ n. bit_at n i) is ∙ bit_at_ones_above (objects_in (class_at class)) i past;
  cells = λ v has.
      whole_free block.cell.board block.home (objects_in (class_at class)) free v
      (subst (λ o. IfSome o (λ w. IsWhole block.home w.number w.pool)) has whole) (subst (λ o. IfSome o (λ w. w.pool.board ≡ block.cell.board)) has table);
}

-- ---- a place is taken

pub lowest_of : (class free : ℕ) (block : BlockShown) (vector : Option VectorShown) (shown : SlabShown) → shown_slab class free block vector ≡ shown → IsSlab class free block vector → IsTrue (list_any not shown.slab.places)
    → Lowest (objects_in (class_at class)) free
lowest_of class free block vector shown is slab has_free =
    let fits = fits_word _ free (objects_few (class_at class)) slab.beyond in
    let some : not (free == 0) ≡ true = sym (any_free (objects_in (class_at class)) free slab.beyond fits) ∙ subst (λ (s : SlabShown). list_any not s.slab.places ≡ true) (sym is) has_free in
    lowest (objects_in (class_at class)) free slab.beyond (elim (cases_eq free 0) [ inl none ↦ absurd (false≢true (sym (ap not (eq-eqb free 0 none)) ∙ some)) | inr ne ↦ (let n : free ≢ 0 = ne in omega arith) ]) fits

pub takes_number : {home place : ℕ} {vector after : Option VectorShown} {cell : Option PlaceCell} → TakesOne home place vector after cell → number_in after ≡ number_in vector
takes_number NoCell = refl
takes_number (OneCell t) = ap (λ n. Some n) t.number

pub takes_cells : {home place : ℕ} {vector after : Option VectorShown} {cell : Option PlaceCell} (board : Board) (objects free left : ℕ) → TakesOne home place vector after cell → CellsOf board home objects free vector → Takes objects free left place → place < objects
    → CellsOf board home objects left after
takes_cells board objects free left NoCell cells bits within = λ v is. absurd (none-some v is)
takes_cells {home} {place} board objects free left (OneCell {vector} {after} {cell} t) cells bits within = λ v is.
    subst (λ w. HasFree board home objects left w) (same_Some after v is) (free_after_take board home objects free left place vector after cell (cells vector refl) t bits within)

-- the cell of a place in the vector with a number
abbrev pub cell_at : Board → ℕ → ℕ → ℕ → PlaceCell
cell_at board home place vector = record { vector = vector; seat = record { board = board; first = object_index board.shape home vector place; count = 1; held = held.None } }

pub takes_cell : {home place : ℕ} {vector after : Option VectorShown} {cell : Option PlaceCell} (board : Board) → TakesOne home place vector after cell → ((v : VectorShown) → vector ≡ Some v → v.pool.board ≡ board) → cell ≡ option_map (cell_at board home place) (number_in vector)
takes_cell board NoCell table = refl
takes_cell {home} {place} board (OneCell {vector} {after} {cell} t) table = ap (λ c. Some c) (t.taken ∙ ap (λ b. cell_at b home place vector.number) (table vector refl))

pub place_is : (shown : SlabShown) (place at : ℕ) (vector : Option VectorShown) (cell : Option PlaceCell) → cell ≡ option_map (cell_at shown.board shown.home place) (number_in vector) → number_in vector ≡ shown.slab.vector → place ≡ at
    → ◌≡◌ {A = Place} (record { home = shown.home; frame = shown.frame; place = place; cell = cell }) (place_in shown at)
place_is shown place at vector cell is number same =
    let with_cell : Option PlaceCell → Place = λ c. record { home = shown.home; frame = shown.frame; place = place; cell = c } in
    ap with_cell (is ∙ ap (option_map (cell_at shown.board shown.home place)) number) ∙ ap (place_in shown) same

-- the slab as it is shown with other places
pub shown_with : (class free left : ℕ) (block : BlockShown) (vector after : Option VectorShown) (places : List Bool) → places_of (objects_in (class_at class)) left ≡ places → number_in after ≡ number_in vector
    → shown_slab class left block after ≡ with_slab_state (record (shown_slab class free block vector).slab { places = places }) (shown_slab class free block vector)
shown_with class free left block vector after places are number =
    let with_parts : List Bool → Option ℕ → SlabShown = λ ps n. record { board = block.cell.board; home = block.home; frame = block.frame; slab = record { class = class_at class; places = ps; vector = n } } in
    ap (λ ps. with_parts ps (number_in after)) are ∙ ap (with_parts places) number

pub take_view : (class free left : ℕ) (block : BlockShown) (vector after : Option VectorShown) (shown : SlabShown) → shown_slab class free block vector ≡ shown → Lowest (objects_in (class_at class)) free
    → Takes (objects_in (class_at class)) free left (trailing_zeros w64 free) → number_in after ≡ number_in vector
    → shown_slab class left block after ≡ with_slab_state (with_place true (free_place shown.slab) shown.slab) shown
take_view class free left block vector after shown is low bits number =
    subst (λ (s : SlabShown). shown_slab class left block after ≡ with_slab_state (with_place true (free_place s.slab) s.slab) s) is
    (shown_with class free left block vector after (slice_set (places_of (objects_in (class_at class)) free) (free_place (shown_slab class free block vector).slab) true)
    (bits.places ∙ ap (λ k. slice_set (places_of (objects_in (class_at class)) free) k true) (sym low.is)) number)

pub tables_of : (class free : ℕ) (block : BlockShown) (vector : Option VectorShown) → IsSlab class free block vector → (v : VectorShown) → vector ≡ Some v → v.pool.board ≡ block.cell.board
tables_of class free block vector slab v is = (slab.cells v is).table

-- ---- a place comes back

pub fits_one : (vector : Option VectorShown) (cell : Option PlaceCell) (board : Board) (home place : ℕ) → cell ≡ option_map (cell_at board home place) (number_in vector) → ((v : VectorShown) → vector ≡ Some v → v.pool.board ≡ board) → FitsOne vector cell
fits_one None cell board home place is table = subst (λ c. FitsOne None c) (sym is) NoneFits
fits_one (Some v) cell board home place is table = subst (λ c. FitsOne (Some v) c) (sym is) (OneFits (record { table = sym (table v refl); none = refl }))

pub nothing_given : {vector : Option VectorShown} {cell : Option PlaceCell} → FitsOne vector cell → cell ≡ None → GivesOne vector cell vector
nothing_given NoneFits is = NoneGiven
nothing_given (OneFits {vector} {cell} f) is = absurd (none-some cell (sym is))

pub gives_number : {vector after : Option VectorShown} {cell : Option PlaceCell} → GivesOne vector cell after → number_in after ≡ number_in vector
gives_number NoneGiven = refl
gives_number (OneGiven g) = ap (λ n. Some n) g.number

pub gives_cells : {vector after : Option VectorShown} {cell : Option PlaceCell} (board : Board) (home objects free left place : ℕ) → GivesOne vector cell after → CellsOf board home objects free vector → Gives objects free left place
    → cell ≡ option_map (cell_at board home place) (number_in vector) → CellsOf board home objects left after
gives_cells board home objects free left place NoneGiven cells bits is = λ v none. absurd (none-some v none)
gives_cells board home objects free left place (OneGiven {vector} {after} {cell} g) cells bits is = λ v same.
    let own : cell ≡ cell_at board home place vector.number = same_Some _ _ is in
    subst (λ w. HasFree board home objects left w) (same_Some after v same)
    (free_after_give board home objects free left place vector after cell (cells vector refl) g bits (ap (λ (c : PlaceCell). c.seat.first) own) (ap (λ (c : PlaceCell). c.seat.count) own))

pub give_view : (class free left place : ℕ) (block : BlockShown) (vector after : Option VectorShown) (shown : SlabShown) → shown_slab class free block vector ≡ shown
    → Gives (objects_in (class_at class)) free left place → number_in after ≡ number_in vector
    → shown_slab class left block after ≡ with_slab_state (with_place false place shown.slab) shown
give_view class free left place block vector after shown is bits number =
    subst (λ (s : SlabShown). shown_slab class left block after ≡ with_slab_state (with_place false place s.slab) s) is
    (shown_with class free left block vector after (slice_set (places_of (objects_in (class_at class)) free) place false) bits.places number)

-- what is known of a place that comes back
pub record Back (class free place : ℕ) (block : BlockShown) (vector : Option VectorShown) (cell : Option PlaceCell) : Type 0 where
  pub within : place < objects_in (class_at class)
  pub short : place < 64
  pub own : cell ≡ option_map (cell_at block.cell.board block.home place) (number_in vector)

pub back_of : (class free : ℕ) (block : BlockShown) (vector : Option VectorShown) (shown : SlabShown) (place : Place) → shown_slab class free block vector ≡ shown → place ≡ place_in shown place.place → slice_get shown.slab.places place.place ≡ Some true
    → Back class free place.place block vector place.cell
back_of class free block vector shown place is own taken =
    let objects = objects_in (class_at class) in
    let there : slice_get (places_of objects free) place.place ≡ Some true = subst (λ (s : SlabShown). slice_get s.slab.places place.place ≡ Some true) (sym is) taken in
    let within : place.place < objects = omega (arith, slice_get_within (places_of objects free) place.place true there, length_marks (λ i. bit_at free i == 0) objects) in
    record {
      within = within;
      short = omega (arith, within, objects_few (class_at class));
      own = subst (λ (s : SlabShown). place.cell ≡ option_map (cell_at s.board s.home place.place) s.slab.vector) (sym is) (ap (λ (p : Place). p.cell) own);
    }

-- ---- a slab that no object is in

pub whole_parts : (class free : ℕ) (block : BlockShown) (vector : Option VectorShown) (shown : SlabShown) → shown_slab class free block vector ≡ shown → IsSlab class free block vector → is_used shown.slab ≡ false
    → IfSome vector (λ v. IsWhole shown.home v.number v.pool)
whole_parts class free block vector shown is slab unused =
    let objects = objects_in (class_at class) in
    let few = objects_few (class_at class) in
    let none : list_any (λ taken. taken) (places_of objects free) ≡ false = subst (λ (s : SlabShown). is_used s.slab ≡ false) (sym is) unused in
    let ones = all_set objects free few slab.beyond (fits_word objects free few slab.beyond) none in
    let set : (i : ℕ) → i < objects → bit_at free i ≡ 1 = λ i inside. ap (λ n. bit_at n i) ones ∙ bit_at_ones objects i inside in
    subst (λ (s : SlabShown). IfSome vector (λ v. IsWhole s.home v.number v.pool)) is (if_some vector (λ v has. all_in block.cell.board block.home objects free v (slab.cells v has) slab.fits.home set))
  where
    if_some : (o : Option VectorShown) → ((v : VectorShown) → o ≡ Some v → IsWhole block.home v.number v.pool) → IfSome o (λ v. IsWhole block.home v.number v.pool)
    if_some None all = tt
    if_some (Some v) all = all v refl
