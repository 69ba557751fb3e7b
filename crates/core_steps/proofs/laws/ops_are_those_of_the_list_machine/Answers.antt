use Rattle.std.proofs.Common.{◌∙◌, ap}
use Rattle.tag_model.specs.ListMachine.{in_order}
use Rattle.core_steps.proofs.LivePlaces.{live_sorted, lives_of}
use Rattle.core_steps.proofs.RefOps.{op_done, op_may}
use Rattle.core_steps.proofs.laws.ops_are_those_of_the_list_machine.Goals as goal

pub returns-clause-in_order : goal.returns-clause-in_order
returns-clause-in_order c s = ap in_order (lives_of s) ∙ live_sorted 0 s.machine.places

pub returns-clause-may : goal.returns-clause-may
returns-clause-may c s cpu op ops core begins = op_may s cpu op ops core begins

pub returns-clause-done : goal.returns-clause-done
returns-clause-done c s cpu op ops core begins = op_done s cpu op ops core begins
