-- The single cells of a run that holds nothing.
use Rattle.std.specs.Prelude.{ℕ, List, map}
use Rattle.std.specs.List.{range_with_len}
use Rattle.tag_model.specs.declared.state.Held.TheVariants as held
use Rattle.tag_rule.specs.Shown.{Board, CellShown}

abbrev pub single_cell : Board → ℕ → CellShown
single_cell b n = record { board = b; first = n; count = 1; held = held.None }

-- one by one, in order
abbrev pub single_cells : CellShown → List CellShown
single_cells run = map (single_cell run.board) (range_with_len run.first run.count)
