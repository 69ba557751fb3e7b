use Rattle.core_steps.proofs.Steps.{under_way, ended, free_in}
use Rattle.core_steps.specs.Laws.{after_steps}
use Rattle.module_ops.specs.Modules.{scene_at}
use Rattle.core_steps.proofs.laws.step_counts_are_exact.Goals as goal

pub returns-clause-under_way : goal.returns-clause-under_way
returns-clause-under_way c s cpu i op ops core begins within = (under_way s cpu op ops i core begins within).waits

pub returns-clause-unrefused : goal.returns-clause-unrefused
returns-clause-unrefused c s cpu i op ops core begins within =
    let u = under_way s cpu op ops i core begins within in free_in (after_steps s cpu i).machine (scene_at (after_steps s cpu i).modules cpu) cpu op ops i u.waits u.free

pub returns-clause-ended : goal.returns-clause-ended
returns-clause-ended c s cpu op ops core begins = ended s cpu op ops core begins
