use Rattle.std.proofs.Common.{ℕ, ◌*◌, ◌<◌}
use Rattle.buddy.specs.Bits.{IsRun}
use Rattle.buddy.proofs.bits.least_in_a_word.Given as goal

-- no run starts in a word before this one
abbrev pub invariant-loop-index : goal.invariant-loop-index
invariant-loop-index l = (r : ℕ) → r < 64 * l.index → ¬ IsRun l.words l.order r
