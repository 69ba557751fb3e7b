use Rattle.std.proofs.Common.{◌≡◌, drop}
use Rattle.text_form.specs.Numbers.{number_after}
use Rattle.text_form.proofs.numbers.digits_value.Given as goal

-- the number so far and the digits that are left make the number of the whole word
abbrev pub invariant-loop-b : goal.invariant-loop-b
invariant-loop-b l = number_after l.value (drop l.b-index l.digits) ≡ number_after 0 l.digits
