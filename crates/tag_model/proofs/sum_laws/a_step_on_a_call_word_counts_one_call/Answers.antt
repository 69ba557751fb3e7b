use Rattle.tag_model.proofs.OneCall.{adds_one, begins_one, subtracts_one}
use Rattle.tag_model.proofs.sum_laws.a_step_on_a_call_word_counts_one_call.Goals as goal

pub returns-clause-begins : goal.returns-clause-begins
returns-clause-begins c k tag old new row = begins_one k tag old new row

pub returns-clause-adds : goal.returns-clause-adds
returns-clause-adds c hand old new row = adds_one hand old new row

pub returns-clause-subtracts : goal.returns-clause-subtracts
returns-clause-subtracts c hand old new row = subtracts_one hand old new row
