use Rattle.homing.proofs.Checked.{finds_after_modules, finds_after_ops}
use Rattle.homing.proofs.laws.checked_storage_finds_its_home.Goals as goal

pub returns-clause-after_ops : goal.returns-clause-after_ops
returns-clause-after_ops c = finds_after_ops

pub returns-clause-after_modules : goal.returns-clause-after_modules
returns-clause-after_modules c = finds_after_modules
