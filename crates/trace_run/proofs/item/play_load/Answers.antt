use Rattle.std.proofs.Common.{◌≡◌, None, Some, ap, ◌∙◌, refl, subst, sym}
use Rattle.std.proofs.lemmas.Result.{IfErr-at_err, IfOk-at_ok}
use Rattle.round_modules.specs.Meant.{code_of}
use Rattle.rounds.specs.Places.{IsThere, refusal_here}
use Rattle.trace_run.proofs.Played.{load_at, load_played, load_refused, on_err, on_ok}
use Rattle.trace_run.proofs.item.play_load.Goals as goal

pub returns-in-Ok : goal.returns-in-Ok
returns-in-Ok c = λ p text there next.
    let load = load_at p c.args.line c.args.section next in
    load_played p c.args.line c.args.section next text c.load.new.self
    (IfOk-at_ok (λ done. refusal_here c.args.section p load ≡ None) c.in-Ok.is (c.load.ensures.allowed p there load))
    (on_ok _ _ c.in-Ok.is (c.load.ensures.loaded p there load))

pub returns-in-Err : goal.returns-in-Err
returns-in-Err c = λ p text there next.
    let load = load_at p c.args.line c.args.section next in
    load_refused p c.args.line c.args.section next text c.load.new.self (record { line = c.args.line; code = c.code_of.result })
    (IfErr-at_err (λ why. refusal_here c.args.section p load ≡ Some (c.args.line, code_of why)) c.in-Err.is (c.load.ensures.refused p there load) ∙ ap (λ code. Some (c.args.line, code)) (sym c.code_of.ensures))
    refl
    (subst (IsThere p) (sym (on_err _ _ c.in-Err.is c.load.ensures.stays)) there)
