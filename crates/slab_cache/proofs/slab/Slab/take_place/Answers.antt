use Rattle.std.proofs.Common.{◌≡◌, refl, sym, subst, w64}
use Rattle.std.specs.Int.{trailing_zeros}
use Rattle.tag_model.specs.Shape.{IsChecked}
use Rattle.slab_cache.specs.Bits.{class_at}
use Rattle.slab_cache.specs.Classes.{objects_in}
use Rattle.slab_cache.specs.Shown.{SlabShown}
use Rattle.slab_cache.specs.Slabs.{free_place}
use Rattle.slab_cache.specs.Tables.{HasCell, TakesOne, place_in, shown_slab}
use Rattle.slab_cache.specs.declared.place.Place.{Place}
use Rattle.slab_cache.proofs.Cells.{has_cell}
use Rattle.slab_cache.proofs.ClassLemmas.{objects_few}
use Rattle.slab_cache.proofs.Places.{taken_out}
use Rattle.slab_cache.proofs.SlabLemmas.{lowest_of, place_is, tables_of, take_view, takes_cell, takes_cells, takes_number}
use Rattle.slab_cache.proofs.slab.Slab.take_place.Goals as goal
use Rattle.slab_cache.proofs.slab.Slab.take_place.Goals.{After-take_cell}

takes_here : (c : After-take_cell) → TakesOne c.self.inside.block.home (trailing_zeros w64 c.self.inside.free) c.self.inside.vector c.take_cell.new.vector c.take_cell.result
takes_here c = subst (λ home. TakesOne home (trailing_zeros w64 c.self.inside.free) c.self.inside.vector c.take_cell.new.vector c.take_cell.result) c.home-2.ensures c.take_cell.ensures

pub overflow_shl-self : goal.overflow_shl-self
overflow_shl-self c = (lowest_of c.self.inside.class.index c.self.inside.free c.self.inside.block c.self.inside.vector c.args.self.now c.self.view_is c.self.invariant c.requires.open).short

pub take_cell-requires-clause-place : goal.take_cell-requires-clause-place
take_cell-requires-clause-place c = (lowest_of c.self.inside.class.index c.self.inside.free c.self.inside.block c.self.inside.vector c.args.self.now c.self.view_is c.self.invariant c.requires.open).short

pub take_cell-requires-clause-there : goal.take_cell-requires-clause-there
take_cell-requires-clause-there c =
    let low = lowest_of c.self.inside.class.index c.self.inside.free c.self.inside.block c.self.inside.vector c.args.self.now c.self.view_is c.self.invariant c.requires.open in
    let block = c.self.inside.block in
    let checked = subst (λ (s : SlabShown). IsChecked s.board.shape) (sym c.self.view_is) c.requires.checked in
    λ v is. subst (λ home. HasCell home (trailing_zeros w64 c.self.inside.free) v) (sym c.home-2.ensures)
    (has_cell block.cell.board block.home (objects_in (class_at c.self.inside.class.index)) c.self.inside.free (trailing_zeros w64 c.self.inside.free) v (c.self.invariant.cells v is) checked c.self.invariant.fits.home low.short low.one)

pub invariant_of-self : goal.invariant_of-self
invariant_of-self c =
    let low = lowest_of c.self.inside.class.index c.self.inside.free c.self.inside.block c.self.inside.vector c.args.self.now c.self.view_is c.self.invariant c.requires.open in
    let objects = objects_in (class_at c.self.inside.class.index) in
    let bits = taken_out objects c.self.inside.free _ (trailing_zeros w64 c.self.inside.free) (objects_few _) low.within c.self.invariant.beyond refl in
    record {
      own = c.self.invariant.own;
      fits = c.self.invariant.fits;
      beyond = bits.beyond;
      cells = takes_cells c.self.inside.block.cell.board objects c.self.inside.free _ (takes_here c) c.self.invariant.cells bits low.within;
    }

pub returns-clause-place : goal.returns-clause-place
returns-clause-place c =
    let low = lowest_of c.self.inside.class.index c.self.inside.free c.self.inside.block c.self.inside.vector c.args.self.now c.self.view_is c.self.invariant c.requires.open in
    let shown = shown_slab c.self.inside.class.index c.self.inside.free c.self.inside.block c.self.inside.vector in
    let cell = takes_cell c.self.inside.block.cell.board (takes_here c) (tables_of c.self.inside.class.index c.self.inside.free c.self.inside.block c.self.inside.vector c.self.invariant) in
    subst (λ (s : SlabShown). ◌≡◌ {A = Place} (record { home = c.home.result; frame = c.frame.result; place = trailing_zeros w64 c.self.inside.free; cell = c.take_cell.result }) (place_in s (free_place s.slab))) c.self.view_is
    (rw (c.home.ensures, c.frame.ensures) (place_is shown (trailing_zeros w64 c.self.inside.free) (free_place shown.slab) c.self.inside.vector c.take_cell.result cell refl (sym low.is)))

pub returns-clause-slab : goal.returns-clause-slab
returns-clause-slab c =
    let low = lowest_of c.self.inside.class.index c.self.inside.free c.self.inside.block c.self.inside.vector c.args.self.now c.self.view_is c.self.invariant c.requires.open in
    let bits = taken_out (objects_in (class_at c.self.inside.class.index)) c.self.inside.free _ (trailing_zeros w64 c.self.inside.free) (objects_few _) low.within c.self.invariant.beyond refl in
    take_view c.self.inside.class.index c.self.inside.free _ c.self.inside.block c.self.inside.vector c.take_cell.new.vector c.args.self.now c.self.view_is low bits (takes_number c.take_cell.ensures)
