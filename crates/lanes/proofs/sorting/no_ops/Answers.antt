use Rattle.std.proofs.Common.{Global, Vec, List, [], ap, map, ◌∙◌}
use Rattle.trace.specs.declared.traces.OnOp.{OnOp}
use Rattle.lanes.proofs.NumberLemmas.{lanes_more}
use Rattle.lanes.proofs.sorting.no_ops.Goals as goal

abbrev items : Vec OnOp Global → List OnOp
items lane = lane.items

pub loop-cpu-preserved : goal.loop-cpu-preserved
loop-cpu-preserved c =
    ap (λ (lanes : List (Vec OnOp Global)). map items lanes) c.in_ok-push.ensures.items
    ∙ lanes_more items c.loop-cpu._cpu [] c.loop-cpu.lanes.items c.new.result c.loop-cpu.invariant c.new.ensures.items
