use Rattle.std.proofs.Common.{ℕ, Option, sym, ap, ◌∙◌}
use Rattle.tag_model.specs.declared.state.Sweep.{Sweep}
use Rattle.tag_model.specs.declared.state.Sweep.TheVariants as sweep
use Rattle.tag_model.specs.StepRules.{goes_on}
use Rattle.module_list.proofs.list.pass_record.Goals as goal

pub returns-in-Some : goal.returns-in-Some
returns-in-Some c =
    let on : Option ℕ → Sweep = λ o. goes_on o c.args.pass c.args.left.now c.args.records.now in
    ap (sweep.Reading c.args.left.now) c.from_start.ensures ∙ sym (ap on (sym c.next_above.ensures ∙ c.in-Some.is))

pub returns-in-None : goal.returns-in-None
returns-in-None c =
    let on : Option ℕ → Sweep = λ o. goes_on o c.args.pass c.args.left.now c.args.records.now in
    c.end_pass.ensures ∙ sym (ap on (sym c.next_above.ensures ∙ c.in-None.is))
