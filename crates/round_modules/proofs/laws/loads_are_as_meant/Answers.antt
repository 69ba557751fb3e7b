use Rattle.round_modules.proofs.Meant.{load_meant, refusals_meant}
use Rattle.round_modules.proofs.laws.loads_are_as_meant.Goals as goal

pub returns-clause-refusals : goal.returns-clause-refusals
returns-clause-refusals c = refusals_meant

pub returns-clause-loaded : goal.returns-clause-loaded
returns-clause-loaded c = load_meant
