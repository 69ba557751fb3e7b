use Rattle.std.proofs.Common.{◌≡◌, Global, Vec, map, take}
use Rattle.lanes.specs.Lanes.{lanes_of}
use Rattle.trace.specs.declared.traces.OnOp.{OnOp}
use Rattle.lanes.proofs.sorting.by_cpu.Given as goal

abbrev pub invariant-loop-on : goal.invariant-loop-on
invariant-loop-on l = map (λ (lane : Vec OnOp Global). lane.items) l.lanes.items ≡ lanes_of l.count (take l.on-index l.ops)
