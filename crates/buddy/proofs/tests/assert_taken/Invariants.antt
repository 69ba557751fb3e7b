use Rattle.std.proofs.Common.{ℕ, ◌≡◌, ◌<◌, ◌≤◌, true, Some, slice_get}
use Rattle.buddy.proofs.tests.assert_taken.Given as goal

abbrev pub invariant-loop-frame : goal.invariant-loop-frame
invariant-loop-frame g l = (frame : ℕ) → l.start ≤ frame → frame < l.frame → slice_get l.zone frame ≡ Some true
