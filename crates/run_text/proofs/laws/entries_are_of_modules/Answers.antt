use Rattle.run_text.proofs.EntryLemmas.{entries_of_modules}
use Rattle.run_text.proofs.laws.entries_are_of_modules.Goals as goal

pub returns : goal.returns
returns c = entries_of_modules
