use Rattle.std.proofs.Common.{◌≡◌, None, replicate}
use Rattle.slab_cache.proofs.table.no_slabs.Given as goal

abbrev pub invariant-loop-frame : goal.invariant-loop-frame
invariant-loop-frame l = l.slabs.items ≡ replicate l._frame None
