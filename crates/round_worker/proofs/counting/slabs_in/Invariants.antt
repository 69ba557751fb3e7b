use Rattle.std.proofs.Common.{◌≡◌, count_by, is_some, take}
use Rattle.round_worker.proofs.counting.slabs_in.Given as goal

abbrev pub invariant-loop-frame : goal.invariant-loop-frame
invariant-loop-frame l = l.count ≡ count_by is_some (take l.frame l.node.slabs)
