use Rattle.std.proofs.Common.{◌+◌, ◌*◌, length}
use Rattle.lanes.proofs.running.+side_by_side.Given as goal

abbrev pub decreases-join_halves : goal.decreases-join_halves
decreases-join_halves g l = 3 * (length l.low_ops.now + length l.high_ops.now)

abbrev pub decreases-join_halves-one : goal.decreases-join_halves-one
decreases-join_halves-one g l = 3 * length l.low_ops.now + 2

abbrev pub decreases-join_halves-other : goal.decreases-join_halves-other
decreases-join_halves-other g l = 3 * length l.high_ops.now + 2

abbrev pub decreases-run_lanes : goal.decreases-run_lanes
decreases-run_lanes g l = 3 * length l.ops.now + 1
