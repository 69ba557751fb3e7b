use Rattle.run_text.proofs.RowLemmas.{rows_are_live, text_is_live}
use Rattle.run_text.proofs.laws.quiet_rows_are_those_of_the_meaning.Goals as goal

pub returns-clause-rows : goal.returns-clause-rows
returns-clause-rows c = rows_are_live

pub returns-clause-text : goal.returns-clause-text
returns-clause-text c = text_is_live
