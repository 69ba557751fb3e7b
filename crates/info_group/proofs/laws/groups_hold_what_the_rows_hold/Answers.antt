use Rattle.info_group.proofs.TotalLemmas.{all_bytes, all_calls}
use Rattle.info_group.proofs.laws.groups_hold_what_the_rows_hold.Goals as goal

pub returns-clause-bytes : goal.returns-clause-bytes
returns-clause-bytes c = all_bytes

pub returns-clause-calls : goal.returns-clause-calls
returns-clause-calls c = all_calls
