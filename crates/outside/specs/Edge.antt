-- What contracts see of a reader or a writer of std's at the edge of the program.
use Rattle.std.specs.Prelude.{ℕ, List, Option}

-- the bytes that the reader tells it has left, or the writer that it holds, if any; the count of faults
pub record Edge : Type 0 where
  pub told : Option (List ℕ)
  pub faults : ℕ
