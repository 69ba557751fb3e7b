use Rattle.std.proofs.Common.{◌≤◌}
use Rattle.step_play.specs.Schedule.{Played}
use Rattle.step_play.specs.Playing.{Shows, SameSizes, own_setting}
use Rattle.step_play.proofs.Stepping.{Goes}
use Rattle.step_play.proofs.play.play_steps.Given as goal

abbrev pub invariant-loop-left : goal.invariant-loop-left
invariant-loop-left l = record {
  goes : (p : Played) → Shows (own_setting l.fn.core) l.fn.core l.fn.out.items p → Goes (own_setting l.fn.core) l.actor l.core l.out.items l.left l.count p;
  sizes : SameSizes l.fn.core l.core;
}

abbrev pub decreases-loop-left : goal.decreases-loop-left
decreases-loop-left l = l.left
