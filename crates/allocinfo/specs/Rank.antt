-- The order of rows by what they hold.
use Rattle.std.specs.Prelude.{ℕ, ◌==◌, Bool, ◌&&◌, ◌||◌, List, [], ◌∷◌, nat_lt, take, IsPermutation, if◌then◌else◌}
use Rattle.std.specs.List.Sorted.{IsSortedBy, IsStableBy}
use Rattle.tag_section.specs.Section.{Section}
use Rattle.allocinfo.specs.Text.{rows_text}
use Rattle.allocinfo.specs.declared.rows.Row.{Row}

-- the one row has more bytes, or as many bytes and more calls
abbrev pub holds_more : Row → Row → Bool
holds_more one other = nat_lt other.bytes one.bytes || (one.bytes == other.bytes && nat_lt other.calls one.calls)

-- the row put before the first of the others that holds no more
unfoldable pub inserted : Row → List Row → List Row
inserted row [] = row ∷ []
inserted row (other ∷ others) = if holds_more other row then other ∷ inserted row others else row ∷ other ∷ others

-- the rows by greater bytes, then greater calls, then the earlier place
unfoldable pub ranked : List Row → List Row
ranked [] = []
ranked (row ∷ rows) = inserted row (ranked rows)

-- the same rows, none after one that holds less, and rows that hold as much in their order
pub record IsRanking (rows ranking : List Row) : Type 0 where
  pub same_rows : IsPermutation rows ranking
  pub falls : IsSortedBy holds_more ranking
  pub ties_stay : IsStableBy holds_more rows ranking

-- the header, and the lines of the first n rows by what they hold
abbrev pub top_text : ℕ → List Section → List Row → List ℕ
top_text n sections rows = rows_text sections (take n (ranked rows))
