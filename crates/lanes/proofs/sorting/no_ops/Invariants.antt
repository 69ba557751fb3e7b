use Rattle.std.proofs.Common.{◌≡◌, Global, Vec, [], map}
use Rattle.lanes.specs.Lanes.{lanes_of}
use Rattle.trace.specs.declared.traces.OnOp.{OnOp}
use Rattle.lanes.proofs.sorting.no_ops.Given as goal

abbrev pub invariant-loop-cpu : goal.invariant-loop-cpu
invariant-loop-cpu l = map (λ (lane : Vec OnOp Global). lane.items) l.lanes.items ≡ lanes_of l._cpu []
