use Rattle.std.proofs.Common.{length}
use Rattle.tag_model.specs.Sweeping.{ids_left}
use Rattle.reclaim.specs.Sweeps.{Releases}
use Rattle.reclaim.proofs.locked.Locked.release_all.Given as goal

abbrev pub invariant-loop-id : goal.invariant-loop-id
invariant-loop-id l = Releases l.initial.self l.count l.self

abbrev pub decreases-loop-id : goal.decreases-loop-id
decreases-loop-id l = length (ids_left l.self.sweep)
