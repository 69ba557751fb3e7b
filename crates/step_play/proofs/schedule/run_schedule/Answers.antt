use Rattle.std.proofs.Common.{◌≡◌, List, All, sym, subst, Ok, Err}
use Rattle.input_form.specs.declared.code.TextError.{TextError}
use Rattle.core_steps.specs.CoreState.{CoreState, fresh}
use Rattle.step_text.specs.declared.steps.StepLine.{StepLine}
use Rattle.step_play.specs.Schedule.{setting_of, shape_of, schedule_of}
use Rattle.step_play.specs.Playing.{Plays, IsLine}
use Rattle.step_play.proofs.Lines.{playable, played_all, ends_text, names_kept}
use Rattle.step_play.proofs.schedule.run_schedule.Goals as goal

pub play-requires-clause-lines : goal.play-requires-clause-lines
play-requires-clause-lines c =
    let from : c.in_ok-core.core ≡ fresh (shape_of c.args.steps.cpus c.args.steps.area) c.args.steps.sections = rw c.shape_of.ensures at c.in_ok-core.ensures.value in
    subst (λ (lines : List StepLine). All (IsLine c.in_ok-core.core) lines) (sym c.as_slice.ensures)
    (subst (λ (core : CoreState). All (IsLine core) c.args.steps.body) (sym from) (playable c.args.steps c.requires.formed))

pub returns-in-Ok-clause-meaning : goal.returns-in-Ok-clause-meaning
returns-in-Ok-clause-meaning c =
    ends_text (setting_of c.args.steps) c.play.new.core c.play.new.out (schedule_of c.args.steps)
    (played_all c.args.steps c.shape_of.result c.in_ok-core.core c.play.new.core c.as_slice.result.now c.new-out.result.items c.play.new.out.items (Ok c.in-Ok.field-0) c.as_slice.ensures c.shape_of.ensures c.in_ok-core.ensures.value c.new-out.ensures.items c.in-Ok.ensures.meaning)

pub returns-in-Ok-clause-sections : goal.returns-in-Ok-clause-sections
returns-in-Ok-clause-sections c = names_kept c.args.steps c.shape_of.result c.in_ok-core.core c.play.new.core c.in_ok-core.ensures.value c.in-Ok.ensures.sizes

pub returns-in-Err-Refused-clause-meaning : goal.returns-in-Err-Refused-clause-meaning
returns-in-Err-Refused-clause-meaning c =
    let told = played_all c.args.steps c.shape_of.result c.in_ok-core.core c.play.new.core c.as_slice.result.now c.new-out.result.items c.play.new.out.items (Err c.in-Err-Refused.field-0) c.as_slice.ensures c.shape_of.ensures c.in_ok-core.ensures.value c.new-out.ensures.items c.in-Err-Refused.ensures.meaning in
    subst (λ (e : TextError). Plays (setting_of c.args.steps) (Err e) c.play.new.core c.play.new.out.items (schedule_of c.args.steps)) c.in-Err-Refused.field-0-is told

pub returns-in-Err-Refused-clause-sections : goal.returns-in-Err-Refused-clause-sections
returns-in-Err-Refused-clause-sections c = names_kept c.args.steps c.shape_of.result c.in_ok-core.core c.play.new.core c.in_ok-core.ensures.value c.in-Err-Refused.ensures.sizes
