use Rattle.info_read.proofs.BackLemmas.{spelled}
use Rattle.info_read.proofs.laws.printed_rows_are_spelled.Goals as goal

pub returns : goal.returns
returns c = spelled
