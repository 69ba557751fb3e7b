use Rattle.core_steps.proofs.Left.{left_after}
use Rattle.core_steps.proofs.Others.{others_kept, under_way_free}
use Rattle.core_steps.proofs.SweepBounds.{unrefused}
use Rattle.core_steps.proofs.laws.step_counts_hold_among_others.Goals as goal

pub returns-clause-one_less : goal.returns-clause-one_less
returns-clause-one_less c s cpu core none = left_after s cpu core none

pub returns-clause-others : goal.returns-clause-others
returns-clause-others c s who other ne = others_kept s who other ne

pub returns-clause-under_way : goal.returns-clause-under_way
returns-clause-under_way c s cpu done op ops waits later = under_way_free s cpu done op ops waits later

pub returns-clause-manager_under_way : goal.returns-clause-manager_under_way
returns-clause-manager_under_way c s core way = unrefused s core way
