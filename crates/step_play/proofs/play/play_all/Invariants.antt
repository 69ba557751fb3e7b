use Rattle.core_steps.specs.StepsLeft.{steps_left}
use Rattle.step_play.specs.Schedule.{Played, core_played}
use Rattle.step_play.specs.Playing.{Shows, SameSizes, own_setting}
use Rattle.step_play.proofs.Stepping.{GoesAll}
use Rattle.step_play.proofs.play.play_all.Given as goal

abbrev pub invariant-loop-actor : goal.invariant-loop-actor
invariant-loop-actor l = record {
  goes : (p : Played) → Shows (own_setting l.fn.core) l.fn.core l.fn.out.items p → GoesAll (own_setting l.fn.core) l.actor l.core l.out.items (steps_left (core_played (own_setting l.fn.core) p) l.actor) p;
  sizes : SameSizes l.fn.core l.core;
}

abbrev pub decreases-loop-actor : goal.decreases-loop-actor
decreases-loop-actor l = steps_left l.core l.actor
