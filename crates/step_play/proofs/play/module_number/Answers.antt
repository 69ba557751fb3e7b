use Rattle.std.proofs.Common.{sym, ap}
use Rattle.step_play.specs.Schedule.{module_number}
use Rattle.step_play.proofs.Numbers.{loaded_as, number_below}
use Rattle.step_play.proofs.play.module_number.Goals as goal

pub returns-clause-number : goal.returns-clause-number
returns-clause-number c =
    let l = loaded_as c.book-book.result.now c.args.section c.in_ok-id.id c.in_ok-entry.entry c.book-book.ensures.formed (sym c.in_ok-id.ensures.value) (sym c.in_ok-entry.ensures.value) in
    sym (ap (module_number c.args.index) (rw c.book-book.ensures.value at l.found))

pub returns-clause-within : goal.returns-clause-within
returns-clause-within c =
    let l = loaded_as c.book-book.result.now c.args.section c.in_ok-id.id c.in_ok-entry.entry c.book-book.ensures.formed (sym c.in_ok-id.ensures.value) (sym c.in_ok-entry.ensures.value) in
    number_below c.book-book.result.now c.args.core.now.sections c.args.section c.args.index c.args.core.now.shape.tags c.in_ok-entry.entry c.book-book.ensures.formed c.book-book.ensures.entries c.book-book.ensures.within l c.requires.index
