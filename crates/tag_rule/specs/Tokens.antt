-- The tokens: what each shows, and what it keeps.
use Rattle.std.specs.Prelude.{◌≡◌, ◌≤◌, [], ◌∷◌, vec_capacity}
use Rattle.std.specs.Arc.{arc_value}
use Rattle.tag_model.specs.declared.state.Part.TheVariants.{Cpu, Modules, NextId}
use Rattle.module_list.specs.Listing.{bare, listing_of}
use Rattle.tag_rule.specs.declared.words.Words.{Words}
use Rattle.tag_rule.specs.Fresh.{places}
use Rattle.tag_rule.specs.Rule.{view_of}
use Rattle.tag_rule.specs.Seated.{cpu_in, CpuHolds, CpuKept, cell_parts, CellHolds, cells_in, CellsHold, list_in, ListHolds}
use Rattle.tag_rule.specs.Shown.{Board, CpuShown, CellShown, PoolShown, ListShown, PassShown}
use Rattle.tag_rule.specs.declared.cpu.CpuSeat.TheInside as cpu
use Rattle.tag_rule.specs.declared.cells.CellSeat.TheInside as cell
use Rattle.tag_rule.specs.declared.cells.CellPool.TheInside as pool
use Rattle.tag_rule.specs.declared.modules.ListSeat.TheInside as list
use Rattle.tag_rule.specs.declared.modules.LoadPass.TheInside as pass

abbrev pub board_of : Words → Board
board_of w = record { table = w.table.shared.table_id; shape = w.shape }

-- ---- a CPU's seat

abbrev pub cpu_shown : cpu.Inside → CpuShown
cpu_shown s = record { board = board_of (arc_value s.words); part = cpu_in s.seat.me.0.parts }

pub record IsCpuSeat (s : cpu.Inside) : Type 0 where
  pub table : s.seat.table_id ≡ (arc_value s.words).table.shared.table_id
  pub me : s.seat.me ≡ (view_of (Cpu (cpu_in s.seat.me.0.parts) ∷ []), [])
  pub holds : CpuHolds (arc_value s.words).shape (cpu_in s.seat.me.0.parts)
  pub kept : CpuKept s.number s.hand s.ids.items (cpu_in s.seat.me.0.parts)
  pub room : 64 ≤ vec_capacity s.ids

-- ---- cells

abbrev pub cell_shown : cell.Inside → CellShown
cell_shown s = record { board = record { table = s.seat.table_id; shape = s.shape }; first = s.first; count = s.count; held = s.held }

pub record IsCellSeat (s : cell.Inside) : Type 0 where
  pub me : s.seat.me ≡ (view_of (cell_parts s.first s.count s.held), [])
  pub holds : CellHolds s.shape s.first s.count s.held

abbrev pub pool_shown : pool.Inside → PoolShown
pool_shown s = record { board = board_of (arc_value s.words); cells = cells_in s.seat.me.0.parts }

pub record IsCellPool (s : pool.Inside) : Type 0 where
  pub table : s.seat.table_id ≡ (arc_value s.words).table.shared.table_id
  pub me : s.seat.me ≡ (view_of (places (cells_in s.seat.me.0.parts)), [])
  pub holds : CellsHold (arc_value s.words).shape (cells_in s.seat.me.0.parts)

-- ---- the module list and the next id

abbrev pub list_shown : list.Inside → ListShown
list_shown s = record { board = board_of (arc_value s.words); part = list_in s.seat.me.0.parts }

pub record IsListSeat (s : list.Inside) : Type 0 where
  pub table : s.seat.table_id ≡ (arc_value s.words).table.shared.table_id
  pub me : s.seat.me ≡ (view_of (Modules (list_in s.seat.me.0.parts) ∷ []), [])
  pub holds : ListHolds (arc_value s.words).shape (list_in s.seat.me.0.parts)
  pub kept : s.kept ≡ bare (listing_of (list_in s.seat.me.0.parts))

abbrev pub pass_shown : pass.Inside → PassShown
pass_shown s = record { board = record { table = s.seat.table_id; shape = s.shape }; next = s.next }

pub record IsLoadPass (s : pass.Inside) : Type 0 where
  pub me : s.seat.me ≡ (view_of (NextId s.next ∷ []), [])
