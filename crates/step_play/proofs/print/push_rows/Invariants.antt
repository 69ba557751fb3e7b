use Rattle.std.proofs.Common.{◌≡◌, ◌++◌, ℕ, List, All}
use Rattle.allocinfo.specs.Text.{IsRow}
use Rattle.step_play.specs.Printed.{Setting, section_rows}
use Rattle.step_play.specs.Schedule.{Played}
use Rattle.step_play.specs.Playing.{Shows}
use Rattle.step_play.proofs.print.push_rows.Given as goal

abbrev pub invariant-loop-index : goal.invariant-loop-index
invariant-loop-index l = record {
  rows : (s : Setting) (text : List ℕ) (p : Played) → Shows s l.core text p → l.rows.items ≡ l.fn.rows.items ++ section_rows s p.moves l.section l.start l.index;
  fit : All (IsRow l.core.sections) l.fn.rows.items → All (IsRow l.core.sections) l.rows.items;
}
