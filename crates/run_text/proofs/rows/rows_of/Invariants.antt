use Rattle.std.proofs.Common.{◌≡◌, ◌++◌, length, map}
use Rattle.tag_iter.specs.Walks.{places_left}
use Rattle.run_text.specs.Rows.{quiet_row, quiet_rows}
use Rattle.run_text.proofs.rows.rows_of.Given as goal

abbrev pub invariant-loop-place : goal.invariant-loop-place
invariant-loop-place l = record {
  left : l.rows.items ++ map (quiet_row l.fn.cpus) (places_left l.iter l.locked) ≡ quiet_rows l.fn.kept l.locked l.fn.cpus;
  same : l.cpus ≡ l.fn.cpus;
}

abbrev pub decreases-loop-place : goal.decreases-loop-place
decreases-loop-place l = length (places_left l.iter l.locked)
