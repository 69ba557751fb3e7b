use Rattle.std.proofs.Common.{◌≡◌, take}
use Rattle.core_steps.specs.CoreState.{total_of}
use Rattle.core_steps.proofs.machine.total.Given as goal

abbrev pub invariant-loop-own : goal.invariant-loop-own
invariant-loop-own l = l.total ≡ total_of (take l.own-index l.words) l.kind l.tag
