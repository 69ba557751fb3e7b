use Rattle.std.proofs.Common.{◌≡◌, ◌++◌, take}
use Rattle.std.specs.List.{flat_map}
use Rattle.trace_play.specs.Printed.{area_text}
use Rattle.run_text.proofs.areas.write_ranges.Given as goal

abbrev pub invariant-loop-place : goal.invariant-loop-place
invariant-loop-place l = l.out.items ≡ l.fn.out.items ++ flat_map (area_text l.locked.sections) (take l.place l.locked.area.entries)
