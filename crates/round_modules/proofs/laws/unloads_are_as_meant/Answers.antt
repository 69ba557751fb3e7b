use Rattle.round_modules.proofs.Meant.{unloads_meant}
use Rattle.round_modules.proofs.laws.unloads_are_as_meant.Goals as goal

pub returns : goal.returns
returns c = unloads_meant
