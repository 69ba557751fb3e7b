-- An object whose seat of cells is lent ends with the seat that is left there.
use Rattle.std.specs.Prelude.{Option, Some, None}
use Rattle.std.specs.Borrow.{LendsIf, MutBor, Fml}
use Rattle.tag_rule.specs.Shown.{CellShown}
use Rattle.tag_rule.specs.contracts.cells.CellSeat.{the_row as cell_row}
use Rattle.page_ext.specs.Lending.{with_cell}
use Rattle.slab_cache.specs.declared.object.Obj.{Obj}
use Rattle.slab_cache.specs.declared.object.Stored.{Stored}
use Rattle.slab_cache.specs.declared.object.Stored.TheVariants.{Pages, InSlab}
use Rattle.slab_cache.specs.declared.place.Place.{Place}
use Rattle.slab_cache.specs.declared.place.PlaceCell.{PlaceCell}
use Rattle.slab_cache.specs.contracts.object.Obj.{the_row as obj_row}
use Rattle.slab_cache.specs.contracts.object.Stored.{the_row as stored_row}
use Rattle.slab_cache.specs.contracts.place.Place.{the_row as place_row}

abbrev pub with_seat : Option PlaceCell → CellShown → Option PlaceCell
with_seat None seat = None
with_seat (Some cell) seat = Some (record cell { seat = seat })

abbrev pub place_with : Place → CellShown → Place
place_with place seat = record place { cell = with_seat place.cell seat }

abbrev pub stored_with : Stored → CellShown → Stored
stored_with (Pages block) seat = Pages (with_cell block seat)
stored_with (InSlab place) seat = InSlab (place_with place seat)

abbrev pub obj_with : Obj → CellShown → Obj
obj_with obj seat = record obj { stored = stored_with obj.stored seat }

abbrev pub LendsPlaceCell : MutBor Place → Option (MutBor CellShown) → Fml
LendsPlaceCell place cell = LendsIf place_row cell_row place cell (place_with place.now) place.now

abbrev pub LendsStoredCell : MutBor Stored → Option (MutBor CellShown) → Fml
LendsStoredCell stored cell = LendsIf stored_row cell_row stored cell (stored_with stored.now) stored.now

-- with no cell it is as before
abbrev pub LendsCell : MutBor Obj → Option (MutBor CellShown) → Fml
LendsCell obj cell = LendsIf obj_row cell_row obj cell (obj_with obj.now) obj.now
