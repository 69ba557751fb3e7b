use Rattle.std.proofs.Common.{ℕ, ◌≡◌, ◌^◌, ◌↔◌}
use Rattle.std.specs.Int.{bit_at}
use Rattle.buddy.specs.Bits.{HasOnes}
use Rattle.buddy.proofs.bits.starts_in.Given as goal

abbrev pub invariant-loop-level : goal.invariant-loop-level
invariant-loop-level l = (s : ℕ) → (bit_at l.runs s ≡ 1) ↔ HasOnes l.word s (2 ^ l.level)
