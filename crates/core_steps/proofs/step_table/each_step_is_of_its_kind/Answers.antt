use Rattle.core_steps.proofs.ByKind.{kind_goes, table_length}
use Rattle.core_steps.proofs.Stepping.{goes_by_kind}
use Rattle.core_steps.specs.CoreState.{stepped}
use Rattle.core_steps.specs.Kinds.{kind_of}
use Rattle.core_steps.proofs.step_table.each_step_is_of_its_kind.Goals as goal

pub returns-clause-counts : goal.returns-clause-counts
returns-clause-counts c op some = table_length op some

pub returns-clause-goes : goal.returns-clause-goes
returns-clause-goes c s who reads core free = kind_goes s.shape (kind_of s who) (stepped s who).modules.list.sweep _ _ (goes_by_kind s who core free reads)
