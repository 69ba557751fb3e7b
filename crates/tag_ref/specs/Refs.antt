-- What opening, marking, closing and trimming do to a cell and to the CPU that does it, by the list machine.
use Rattle.std.specs.Prelude.{◌≡◌, ℕ, List}
use Rattle.tag_model.specs.declared.state.Held.{Held}
use Rattle.tag_model.specs.declared.state.Held.TheVariants as held
use Rattle.tag_model.specs.Moves.{Move}
use Rattle.tag_model.specs.RefMoves.{words_after_moves}
use Rattle.tag_model.specs.ListMachine.{Live, RefOp, held_at, done, op_moves}
use Rattle.tag_rule.specs.Shown.{CpuShown, CellShown}
use Rattle.tag_ref.specs.declared.refs.Closed.{Closed}
use Rattle.tag_ref.specs.declared.refs.Closed.TheVariants as closed

-- the CPU once its words moved so. Its number, hand, runs and notes stay, and so does its table
abbrev pub moved_by : List Move → CpuShown → CpuShown
moved_by moves cpu = record cpu { part = record cpu.part { words = words_after_moves cpu.part.number cpu.part.words moves } }

-- the cell once it holds this
abbrev pub holding : Held → CellShown → CellShown
holding h cell = record cell { held = h }

-- whatever else is live: the cell holds what the op of the list machine leaves in its place, and the CPU's words moved by the op's moves
abbrev pub MeetsMachine : (ℕ → RefOp) → CpuShown → CellShown → CpuShown → CellShown → Type 0
MeetsMachine op cpu cell cpu_after cell_after =
    (live : Live) → held_at cell.first live ≡ cell.held
    → (cell_after ≡ holding (held_at cell.first (done (op cell.first) live)) cell) × (cpu_after ≡ moved_by (op_moves cpu.part.number (op cell.first) live) cpu)

-- what a free tells of the cell that it found
abbrev pub closed_as : Held → Closed
closed_as held.None = closed.WasEmpty
closed_as held.Empty = closed.WasEmpty
closed_as (held.Counted tag size) = closed.Counted tag size
