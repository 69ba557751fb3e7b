use Rattle.std.proofs.Common.{Ok, Err, sym, ap, ◌∙◌}
use Rattle.input_form.proofs.Sections.{added_ok, added_many}
use Rattle.input_form.proofs.head.add.Goals as goal

pub returns-in-Ok : goal.returns-in-Ok
returns-in-Ok c =
    added_ok c.args.tag c.args.sections.now (λ full. let no : ⊥ = cc (c.in-Ok.ensures.too_many.1 full) in no)
    ∙ ap Ok (sym c.in-Ok.ensures.added)

pub returns-in-Err-TooManyTags : goal.returns-in-Err-TooManyTags
returns-in-Err-TooManyTags c =
    added_many c.args.tag c.args.sections.now (c.in-Err-TooManyTags.ensures.too_many.0 (ap Err c.in-Err-TooManyTags.field-0-is))
