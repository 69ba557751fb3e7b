use Rattle.std.proofs.Common.{◌≡◌, Ok}
use Rattle.std.proofs.lemmas.Result.{IfOk-at_ok, IfOk-weaker}
use Rattle.trace.specs.TraceReading.{trace_of}
use Rattle.profile_top.proofs.Running.{leaves_run, run_gives}
use Rattle.profile_top.proofs.run.run_answer.Goals as goal

pub returns-in-Ok-clause-answer : goal.returns-in-Ok-clause-answer
returns-in-Ok-clause-answer g c =
    let form : trace_of c.args.input.now ≡ Ok c.in-Ok.trace = (IfOk-at_ok _ c.in-Ok.is c.in_ok-trace.ensures.form).1 in
    let rounds = IfOk-at_ok _ c.in-Ok.is c.in_ok-trace.ensures.rounds in
    IfOk-weaker c.trace_answer.result _ _ (λ answer gives. run_gives c.args.input.now c.in-Ok.trace answer form rounds gives) c.trace_answer.ensures.answer

pub returns-in-Ok-clause-leaves : goal.returns-in-Ok-clause-leaves
returns-in-Ok-clause-leaves g c =
    let form : trace_of c.args.input.now ≡ Ok c.in-Ok.trace = (IfOk-at_ok _ c.in-Ok.is c.in_ok-trace.ensures.form).1 in
    let rounds = IfOk-at_ok _ c.in-Ok.is c.in_ok-trace.ensures.rounds in
    IfOk-weaker c.trace_answer.result _ _ (λ answer has. leaves_run c.args.input.now c.in-Ok.trace c.args.plant.now c.trace_answer.new.plant c.requires.within form rounds has) c.trace_answer.ensures.plant
