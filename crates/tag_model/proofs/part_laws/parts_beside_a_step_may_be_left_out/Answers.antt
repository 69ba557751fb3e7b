use Rattle.tag_model.proofs.Lent.{beside_before, beside_behind}
use Rattle.tag_model.proofs.part_laws.parts_beside_a_step_may_be_left_out.Goals as goal

pub returns-clause-behind : goal.returns-clause-behind
returns-clause-behind c v w more old new becomes = beside_behind v w more old new becomes

pub returns-clause-before : goal.returns-clause-before
returns-clause-before c v w more old new becomes = beside_before v w more old new becomes
