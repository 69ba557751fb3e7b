use Rattle.std.proofs.Common.{refl}
use Rattle.slab_cache.specs.Bits.{class_at}
use Rattle.slab_cache.specs.Classes.{objects_in}
use Rattle.slab_cache.proofs.ClassLemmas.{objects_few}
use Rattle.slab_cache.proofs.Places.{given_in}
use Rattle.slab_cache.proofs.SlabLemmas.{back_of, fits_one, give_view, gives_cells, gives_number, tables_of}
use Rattle.slab_cache.proofs.slab.Slab.give_place.Goals as goal

pub overflow_shl-self : goal.overflow_shl-self
overflow_shl-self c = (back_of c.self.inside.class.index c.self.inside.free c.self.inside.block c.self.inside.vector c.args.self.now c.args.place c.self.view_is c.requires.own c.requires.taken).short

pub give_cell-requires : goal.give_cell-requires
give_cell-requires c =
    let back = back_of c.self.inside.class.index c.self.inside.free c.self.inside.block c.self.inside.vector c.args.self.now c.args.place c.self.view_is c.requires.own c.requires.taken in
    fits_one c.self.inside.vector c.args.place.cell c.self.inside.block.cell.board c.self.inside.block.home c.args.place.place back.own
    (tables_of c.self.inside.class.index c.self.inside.free c.self.inside.block c.self.inside.vector c.self.invariant)

pub invariant_of-self : goal.invariant_of-self
invariant_of-self c =
    let back = back_of c.self.inside.class.index c.self.inside.free c.self.inside.block c.self.inside.vector c.args.self.now c.args.place c.self.view_is c.requires.own c.requires.taken in
    let objects = objects_in (class_at c.self.inside.class.index) in
    let bits = given_in objects c.self.inside.free _ c.args.place.place (objects_few _) back.within c.self.invariant.beyond refl in
    record {
      own = c.self.invariant.own;
      fits = c.self.invariant.fits;
      beyond = bits.beyond;
      cells = gives_cells c.self.inside.block.cell.board c.self.inside.block.home objects c.self.inside.free _ c.args.place.place c.give_cell.ensures c.self.invariant.cells bits back.own;
    }

pub returns : goal.returns
returns c =
    let back = back_of c.self.inside.class.index c.self.inside.free c.self.inside.block c.self.inside.vector c.args.self.now c.args.place c.self.view_is c.requires.own c.requires.taken in
    let bits = given_in (objects_in (class_at c.self.inside.class.index)) c.self.inside.free _ c.args.place.place (objects_few _) back.within c.self.invariant.beyond refl in
    give_view c.self.inside.class.index c.self.inside.free _ c.args.place.place c.self.inside.block c.self.inside.vector c.give_cell.new.vector c.args.self.now c.self.view_is bits (gives_number c.give_cell.ensures)
