-- A block whose seat of cells is lent ends with the seat that is left there.
use Rattle.std.specs.Borrow.{Lends, MutBor, Fml}
use Rattle.tag_rule.specs.Shown.{CellShown}
use Rattle.tag_rule.specs.contracts.cells.CellSeat.{the_row as cell_row}
use Rattle.page_ext.specs.Shown.{BlockShown}
use Rattle.page_ext.specs.contracts.block.Block.{the_row}

abbrev pub with_cell : BlockShown → CellShown → BlockShown
with_cell block cell = record block { cell = cell }

abbrev pub LendsCell : MutBor BlockShown → MutBor CellShown → Fml
LendsCell block cell = Lends the_row cell_row block cell (with_cell block.now)
