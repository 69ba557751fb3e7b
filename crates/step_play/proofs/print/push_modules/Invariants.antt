use Rattle.std.proofs.Common.{◌≡◌, ◌++◌, ℕ, List, All, take}
use Rattle.std.specs.List.{flat_map}
use Rattle.allocinfo.specs.Text.{IsRow}
use Rattle.step_play.specs.Printed.{Setting, module_rows}
use Rattle.step_play.specs.Schedule.{Played}
use Rattle.step_play.specs.Playing.{Shows}
use Rattle.step_play.proofs.print.push_modules.Given as goal

abbrev pub invariant-loop-place : goal.invariant-loop-place
invariant-loop-place l = record {
  rows : (s : Setting) (text : List ℕ) (p : Played) → Shows s l.core text p → l.rows.items ≡ l.fn.rows.items ++ flat_map (module_rows s p.moves) (take l.place l.core.modules.list.area.entries);
  fit : All (IsRow l.core.sections) l.fn.rows.items → All (IsRow l.core.sections) l.rows.items;
}
