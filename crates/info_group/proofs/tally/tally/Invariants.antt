use Rattle.std.proofs.Common.{◌≡◌, take, map}
use Rattle.info_read.specs.Views.{row_view}
use Rattle.info_group.specs.Keys.{key_of}
use Rattle.info_group.specs.Tally.{by_name, tallies}
use Rattle.info_group.proofs.tally.tally.Given as goal

abbrev pub invariant-loop-row : goal.invariant-loop-row
invariant-loop-row l = by_name l.sums ≡ tallies (key_of l.key) (map row_view (take l.row-index l.rows))
