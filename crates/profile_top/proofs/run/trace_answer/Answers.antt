use Rattle.std.proofs.Common.{◌≡◌, Err, None, Some, ap}
use Rattle.std.proofs.lemmas.Result.{IfOk-weaker}
use Rattle.trace_play.specs.Play.{trace_played}
use Rattle.trace_run.specs.declared.running.RunError.{RunError}
use Rattle.profile_top.proofs.Running.{trace_refused}
use Rattle.profile_top.proofs.run.trace_answer.Goals as goal

pub returns-in-Err-Refused-clause-answer : goal.returns-in-Err-Refused-clause-answer
returns-in-Err-Refused-clause-answer g c =
    let at = c.in-Err-Refused in
    let refused : (trace_played c.args.trace None).refused ≡ Some (at.line, at.code) = (at.ensures.refused at.line at.code (ap (λ (e : RunError). Err e) at.field-0-is)).0 in
    IfOk-weaker c.refusal-in-Err-Refused.result _ _ (λ answer gives. trace_refused c.args.trace answer at.line at.code refused gives) (rw c.new.ensures at c.refusal-in-Err-Refused.ensures)
