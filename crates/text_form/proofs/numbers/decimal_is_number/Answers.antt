use Rattle.text_form.proofs.Decimals.{value_of_decimal}
use Rattle.text_form.proofs.numbers.decimal_is_number.Goals as goal

pub returns : goal.returns
returns c = value_of_decimal
