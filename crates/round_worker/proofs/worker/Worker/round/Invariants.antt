use Rattle.std.proofs.Common.{drop, map}
use Rattle.trace.specs.declared.traces.OnOp.{OnOp}
use Rattle.round_worker.proofs.Rounds.{Goes}
use Rattle.round_worker.proofs.worker.Worker.round.Given as goal

abbrev pub invariant-loop-on : goal.invariant-loop-on
invariant-loop-on g l = Goes (map (λ (on : OnOp). on.op) l.fn.ops) l.initial.self l.initial.cpu (map (λ (on : OnOp). on.op) (drop l.on-index l.fn.ops)) l.self l.cpu
