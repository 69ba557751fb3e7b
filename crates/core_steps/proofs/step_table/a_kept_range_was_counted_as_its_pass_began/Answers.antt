use Rattle.core_steps.proofs.StopRun.{kept_was_counted}
use Rattle.core_steps.proofs.step_table.a_kept_range_was_counted_as_its_pass_began.Goals as goal

pub returns : goal.returns
returns c s who later section index kind sum core free begins on x = kept_was_counted s who later section index kind sum core free begins on x
