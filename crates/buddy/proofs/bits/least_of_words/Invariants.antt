use Rattle.std.proofs.Common.{◌-◌, length}
use Rattle.buddy.proofs.Runs.{WordsBefore}
use Rattle.buddy.proofs.bits.least_of_words.Given as goal

abbrev pub invariant-loop-first : goal.invariant-loop-first
invariant-loop-first l = WordsBefore l.words l.order l.first

abbrev pub decreases-loop-first : goal.decreases-loop-first
decreases-loop-first l = length l.words - l.first
