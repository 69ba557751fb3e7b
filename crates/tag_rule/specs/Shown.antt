-- What the tokens show.
use Rattle.std.specs.Prelude.{ℕ, ◌==◌, Bool, List}
use Rattle.std.specs.List.{list_any}
use Rattle.atomic_table.specs.Seated.{TableId}
use Rattle.tag_model.specs.declared.shape.Shape.{Shape}
use Rattle.tag_model.specs.declared.state.CpuPart.{CpuPart}
use Rattle.tag_model.specs.declared.state.Held.{Held}
use Rattle.tag_model.specs.declared.state.ListPart.{ListPart}

-- which table, with the shape that it was made of
pub record Board : Type 0 where
  pub table : TableId
  pub shape : Shape

-- a CPU's words, hand, runs and notes
pub record CpuShown : Type 0 where
  pub board : Board
  pub part : CpuPart

-- so many cells from the table's word `first` on; the first holds `held`, the others nothing
pub record CellShown : Type 0 where
  pub board : Board
  pub first : ℕ
  pub count : ℕ
  pub held : Held

-- cells that hold nothing, by their words in the table
pub record PoolShown : Type 0 where
  pub board : Board
  pub cells : List ℕ

-- the module list
pub record ListShown : Type 0 where
  pub board : Board
  pub part : ListPart

-- the next id
pub record PassShown : Type 0 where
  pub board : Board
  pub next : ℕ

-- the pool has the cell
abbrev pub has : PoolShown → ℕ → Bool
has pool n = list_any (λ cell. cell == n) pool.cells
