use Rattle.std.proofs.Common.{◌≡◌, false, replicate}
use Rattle.slab_cache.proofs.table.no_frames.Given as goal

abbrev pub invariant-loop-class : goal.invariant-loop-class
invariant-loop-class l = l.sets.items ≡ replicate l._class (replicate l.frames false)
