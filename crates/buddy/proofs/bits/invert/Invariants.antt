use Rattle.std.proofs.Common.{ℕ, ◌≡◌, ◌+◌, ◌-◌, ◌^◌, ◌<◌, ◌≤◌, List, length, get_or}
use Rattle.buddy.proofs.bits.invert.Given as goal

-- the words before the index are turned, and the others as they were
pub record Turned (old new : List ℕ) (index : ℕ) : Type 0 where
  pub done : (j : ℕ) → j < index → j < length old → get_or new j 0 + get_or old j 0 ≡ 2 ^ 64 - 1
  pub rest : (j : ℕ) → index ≤ j → get_or new j 0 ≡ get_or old j 0

abbrev pub invariant-loop-word : goal.invariant-loop-word
invariant-loop-word l = Turned l.fn.words l.word-items l.word-index
