use Rattle.std.proofs.Common.{drop}
use Rattle.step_play.specs.Schedule.{Played}
use Rattle.step_play.specs.Playing.{Shows, SameSizes, own_setting}
use Rattle.step_play.proofs.Stepping.{Reaches}
use Rattle.step_play.proofs.play.play.Given as goal

abbrev pub invariant-loop-line : goal.invariant-loop-line
invariant-loop-line l = record {
  reaches : (p : Played) → Shows (own_setting l.fn.core) l.fn.core l.fn.out.items p → Reaches (own_setting l.fn.core) l.core l.out.items (drop l.line-index l.lines) l.lines p;
  sizes : SameSizes l.fn.core l.core;
}
