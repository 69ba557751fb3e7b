use Rattle.run_text.proofs.LastLine.{same_line}
use Rattle.run_text.proofs.laws.the_last_line_is_of_these_numbers.Goals as goal

pub returns : goal.returns
returns c = same_line
