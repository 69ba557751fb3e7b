use Rattle.std.proofs.Common.{take}
use Rattle.info_read.specs.ReadBack.{AreInfoRows}
use Rattle.info_read.proofs.laws.are_info_rows.Given as goal

-- the rows so far
abbrev pub invariant-loop-row : goal.invariant-loop-row
invariant-loop-row l = AreInfoRows l.sections (take l.row-index l.rows)
