use Rattle.std.proofs.Common.{◌≡◌, Err, subst}
use Rattle.std.specs.Prelude.{⊤}
use Rattle.input_form.specs.declared.code.TextError.{TextError}
use Rattle.input_form.specs.Judging.{Reads}
use Rattle.trace.specs.declared.traces.Trace.{Trace}
use Rattle.trace.specs.TraceReading.{trace_of}
use Rattle.round_check.specs.Walk.{rounds_of}
use Rattle.profile_top.proofs.Running.{form_gives, rounds_give}
use Rattle.profile_top.proofs.check.checked_trace.Goals as goal

pub returns-in-Err-Refused-clause-run : goal.returns-in-Err-Refused-clause-run
returns-in-Err-Refused-clause-run c =
    let at = c.in-Err-Refused in
    let input = c.args.input.now in
    let form : trace_of input ≡ Err (at.line, at.code) = subst (λ (e : TextError). Reads {X = Trace} (Err e) (trace_of input)) at.field-0-is at.ensures.judged in
    let refused = c.in_ok-refusal-in-Err-Refused in
    let gives = rw c.new.ensures at refused.ensures in
    (gives.status, form_gives input refused.field-0 at.line at.code form gives)

pub returns-in-Err-Refused-check_rounds-clause-run : goal.returns-in-Err-Refused-check_rounds-clause-run
returns-in-Err-Refused-check_rounds-clause-run c =
    let at = c.in-Err-Refused-check_rounds in
    let trace = c.in-Ok.trace in
    let rounds : rounds_of trace ≡ Err (at.line, at.code) = subst (λ (e : TextError). Reads {X = ⊤} (Err e) (rounds_of trace)) at.field-0-is at.ensures in
    let refused = c.in_ok-refusal-in-Err-Refused-check_rounds in
    (refused.ensures.status, rounds_give c.args.input.now trace refused.field-0 at.line at.code c.in-Ok.ensures.judged rounds refused.ensures)
