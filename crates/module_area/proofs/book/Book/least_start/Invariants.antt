use Rattle.std.proofs.Common.{ℕ, ◌<◌, ◌≤◌, ◌-◌}
use Rattle.module_area.specs.Area.{LiesIn}
use Rattle.module_area.specs.Entries.{IsMet}
use Rattle.module_area.proofs.book.Book.least_start.Given as goal

abbrev pub invariant-loop-start : goal.invariant-loop-start
invariant-loop-start l = record {
  from_first : l.self.first ≤ l.start;
  in_area : l.start ≤ l.end;
  met_before : (other : ℕ) → other < l.start → LiesIn l.self other l.size → IsMet l.self.entries other l.size;
}

abbrev pub decreases-loop-start : goal.decreases-loop-start
decreases-loop-start l = l.end - l.start
