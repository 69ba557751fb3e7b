use Rattle.cpu_ops.specs.Reserved.{FlaggedFrom}
use Rattle.cpu_ops.proofs.reserved.set_from.Given as goal

-- the keys so far have the flag
abbrev pub invariant-loop-key : goal.invariant-loop-key
invariant-loop-key l = FlaggedFrom l.first l.key l.flag l.initial.flags l.flags
