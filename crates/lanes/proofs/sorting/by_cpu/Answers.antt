use Rattle.std.proofs.Common.{ℕ, ◌≡◌, Global, Vec, List, length, ap, sym, map, take, get_or, ◌∙◌, arith}
use Rattle.std.proofs.lemmas.List.{length-map, take_more}
use Rattle.trace.specs.declared.traces.OnOp.{OnOp}
use Rattle.lanes.specs.Lanes.{lanes_of}
use Rattle.lanes.proofs.NumberLemmas.{lanes_long, op_left_out, op_more}
use Rattle.lanes.proofs.sorting.by_cpu.Goals as goal
use Rattle.lanes.proofs.sorting.by_cpu.Goals.{in-Some+in_ok-push, in_default}

abbrev items : Vec OnOp Global → List OnOp
items lane = lane.items

-- so many lanes as CPUs
as_many : (lanes : List (Vec OnOp Global)) (count : ℕ) (ops : List OnOp) → map items lanes ≡ lanes_of count ops → length lanes ≡ count
as_many lanes count ops is = sym (length-map lanes items) ∙ ap (λ (ls : List (List OnOp)). length ls) is ∙ lanes_long count ops

pub loop-on-preserved : goal.loop-on-preserved
loop-on-preserved c =
    let before = take c.loop-on.on-index c.args.ops.now in
    let on = get_or c.args.ops.now c.loop-on.on-index _ in
    let long = as_many c.loop-on.lanes.items c.args.count before c.loop-on.invariant in
    let more = ap (lanes_of c.args.count) (take_more c.args.ops.now c.loop-on.on-index _ c.loop-on-test.true) in
    elim c.match-get_mut.branch [
      | in-Some+in_ok-push w ↦ ap (λ (ls : Vec (Vec OnOp Global) Global). map items ls.items) w.lanes-is
          ∙ op_more items c.args.count before on c.loop-on.lanes.items w.in-Some.lane.now w.push.new.self c.loop-on.invariant w.in-Some.ensures.item.3.0 w.in-Some.ensures.value w.in_ok-push.ensures.items
          ∙ sym more
      | in_default w ↦ ap (λ (ls : Vec (Vec OnOp Global) Global). map items ls.items) w.lanes-is ∙ c.loop-on.invariant ∙ op_left_out c.args.count before on (omega (arith, long, w.in_default.ensures.item.3)) ∙ sym more
    ]
