use Rattle.std.proofs.Common.{◌≡◌, take, map}
use Rattle.info_read.specs.Views.{row_view}
use Rattle.info_group.proofs.group.texts_of.Given as goal

abbrev pub invariant-loop-row : goal.invariant-loop-row
invariant-loop-row l = map row_view l.texts.items ≡ take l.row-index l.rows
