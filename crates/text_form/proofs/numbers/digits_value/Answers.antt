use Rattle.std.proofs.Common.{◌≡◌, ◌*◌, ◌+◌, ◌-◌, ◌≤◌, ◌<◌, ◌^◌, length, true, get_or, drop, sym, ◌∙◌, arith, inl, inr}
use Rattle.std.proofs.lemmas.Bool.{cases_lt}
use Rattle.text_form.specs.Numbers.{is_digit}
use Rattle.text_form.proofs.Decimals.{grows, turn}
use Rattle.text_form.proofs.numbers.digits_value.Goals as goal

pub returns-in_default : goal.returns-in_default
returns-in_default c = λ n e.
    let digits = c.args.digits.now in
    let place = c.loop-b.b-index in
    let more = c.loop-b.value * 10 + (get_or digits place 0 - 48) in
    let is : is_digit (get_or digits place 0) ≡ true = sym c.is_ascii_digit.ensures.value ∙ c.if-not-is_ascii_digit.false in
    let within : place < length digits = omega arith in
    let low : more ≤ n = grows (drop (place + 1) digits) more n (sym (turn digits place c.loop-b.value within is) ∙ c.loop-b.invariant ∙ e) in
    elim (cases_lt n (2 ^ 64)) [ inl small ↦ absurd (c.in_default.ensures (omega arith)) | inr great ↦ great ]
