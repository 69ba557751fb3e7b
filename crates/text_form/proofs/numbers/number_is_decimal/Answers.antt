use Rattle.text_form.proofs.Decimals.{decimal_of_value}
use Rattle.text_form.proofs.numbers.number_is_decimal.Goals as goal

pub returns : goal.returns
returns c = decimal_of_value
