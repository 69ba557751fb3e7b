use Rattle.tag_model.proofs.CpuRows.{safe-begins_allocation, safe-adds_bytes, safe-adds_call, safe-subtracts_bytes, safe-subtracts_call}
use Rattle.tag_model.proofs.PlaceRow.{safe-writes_place}
use Rattle.tag_model.proofs.sum_laws.word_steps_keep_the_sums.Goals as goal

pub returns-clause-begins_allocation : goal.returns-clause-begins_allocation
returns-clause-begins_allocation c k tag from to old new ok row steps safe = (safe-begins_allocation k tag from to old new ok row steps safe).sums

pub returns-clause-adds_bytes : goal.returns-clause-adds_bytes
returns-clause-adds_bytes c k size hand from to old new ok row steps safe = (safe-adds_bytes k size hand from to old new ok row steps safe).sums

pub returns-clause-writes_place : goal.returns-clause-writes_place
returns-clause-writes_place c k n from to was next old new ok row steps safe = (safe-writes_place k n from to was next old new ok row steps safe).sums

pub returns-clause-adds_call : goal.returns-clause-adds_call
returns-clause-adds_call c k hand from to old new ok row steps safe = (safe-adds_call k hand from to old new ok row steps safe).sums

pub returns-clause-subtracts_bytes : goal.returns-clause-subtracts_bytes
returns-clause-subtracts_bytes c k bytes hand from to old new ok row steps safe = (safe-subtracts_bytes k bytes hand from to old new ok row steps safe).sums

pub returns-clause-subtracts_call : goal.returns-clause-subtracts_call
returns-clause-subtracts_call c k hand from to old new ok row steps safe = (safe-subtracts_call k hand from to old new ok row steps safe).sums
