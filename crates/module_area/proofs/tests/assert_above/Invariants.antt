use Rattle.std.proofs.Common.{ℕ, ◌<◌, get_or}
use Rattle.module_area.specs.declared.entry.Entry.{Entry}
use Rattle.module_area.proofs.tests.assert_above.Given as goal

abbrev pub invariant-loop-place : goal.invariant-loop-place
invariant-loop-place g l = (k : ℕ) (d : Entry) → k < l.place → (get_or l.book.entries k d).id < l.id
