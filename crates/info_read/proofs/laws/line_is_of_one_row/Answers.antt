use Rattle.info_read.proofs.BackLemmas.{one_row}
use Rattle.info_read.proofs.laws.line_is_of_one_row.Goals as goal

pub returns : goal.returns
returns c = one_row
