use Rattle.tag_model.proofs.BookRows.{safe-reads}
use Rattle.tag_model.proofs.safe_laws.the_count_of_reads_matters_not.Goals as goal

pub returns : goal.returns
returns c k l reads old new becomes safe = safe-reads k l reads old new becomes safe
