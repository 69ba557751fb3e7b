use Rattle.std.proofs.Common.{◌≡◌, ◌++◌, drop, map, take}
use Rattle.standing.specs.Turning.{knowing}
use Rattle.rounds.proofs.dealing.tell_all.Given as goal

abbrev pub invariant-loop-worker : goal.invariant-loop-worker
invariant-loop-worker l = l.workers ≡ map (knowing l.modules) (take l.worker-index l.initial.workers) ++ drop l.worker-index l.initial.workers
