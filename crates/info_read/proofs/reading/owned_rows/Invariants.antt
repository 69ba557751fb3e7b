use Rattle.std.proofs.Common.{◌≡◌, take, map}
use Rattle.info_read.specs.Views.{row_view}
use Rattle.info_read.proofs.reading.owned_rows.Given as goal

-- the rows so far
abbrev pub invariant-loop-row : goal.invariant-loop-row
invariant-loop-row l = l.owned.items ≡ map row_view (take l.row-index l.rows)
