use Rattle.std.proofs.Common.{map}
use Rattle.trace.specs.declared.traces.OnOp.{OnOp}
use Rattle.round_worker.proofs.Rounds.{op_done}
use Rattle.round_worker.proofs.worker.Worker.round.Goals as goal

pub loop-on-preserved : goal.loop-on-preserved
loop-on-preserved g c =
    op_done (map (λ (on : OnOp). on.op) c.args.ops.now) c.args.self.now c.args.cpu.now c.args.ops.now c.loop-on.on-index _ c.loop-on.self c.begin-begun.new.self c.loop-on.cpu
    c.loop-on-test.true c.loop-on.invariant c.begin-begun.ensures c.take_op.new.self c.take_op.new.cpu c.in_ok-take_op.ensures
