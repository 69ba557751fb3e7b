use Rattle.std.proofs.Common.{refl}
use Rattle.input_form.specs.Forms.{line_form, tail_form}
use Rattle.input_form.proofs.laws.limits_of_lines_are_these.Goals as goal

pub returns-clause-lines : goal.returns-clause-lines
unfolding line_form tail_form
returns-clause-lines c = (refl, refl)

pub returns-clause-length : goal.returns-clause-length
unfolding line_form tail_form
returns-clause-length c = (refl, refl)

pub returns-clause-bytes : goal.returns-clause-bytes
unfolding line_form tail_form
returns-clause-bytes c = (refl, refl, refl)

pub returns-clause-order : goal.returns-clause-order
unfolding line_form tail_form
returns-clause-order c = (refl, refl)

pub returns-clause-tails : goal.returns-clause-tails
unfolding line_form tail_form
returns-clause-tails c = (refl, refl, refl)
