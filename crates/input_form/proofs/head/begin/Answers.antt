use Rattle.std.proofs.Common.{Ok, Err, sym, ap, ◌∙◌}
use Rattle.input_form.proofs.Sections.{begun_ok, begun_bad, begun_same, begun_many}
use Rattle.input_form.proofs.head.begin.Goals as goal

pub returns-in-Ok : goal.returns-in-Ok
returns-in-Ok c =
    begun_ok c.args.name.now c.args.sections.now c.requires c.in-Ok.ensures.may ∙ ap Ok (sym c.in-Ok.ensures.begun.1)

pub returns-in-Err-BadName : goal.returns-in-Err-BadName
returns-in-Err-BadName c =
    let why = c.in-Err-BadName.ensures.bad_name.0 (ap Err c.in-Err-BadName.field-0-is) in
    begun_bad c.args.name.now c.args.sections.now why.1

pub returns-in-Err-SameName : goal.returns-in-Err-SameName
returns-in-Err-SameName c =
    let why = c.in-Err-SameName.ensures.same_name.0 (ap Err c.in-Err-SameName.field-0-is) in
    begun_same c.args.name.now c.args.sections.now why.1 why.2

pub returns-in-Err-TooManySections : goal.returns-in-Err-TooManySections
returns-in-Err-TooManySections c =
    let why = c.in-Err-TooManySections.ensures.too_many.0 (ap Err c.in-Err-TooManySections.field-0-is) in
    begun_many c.args.name.now c.args.sections.now why.0 why.1 why.2
