use Rattle.tag_model.specs.ListMachine.{in_order}
use Rattle.tag_model.proofs.LiveLists.{in_order_is}
use Rattle.tag_model.proofs.OpMoves.{op_sums}
use Rattle.tag_model.proofs.list_machine.ops_are_their_moves.Goals as goal

pub returns : goal.returns
returns c = record { sums = λ cpu op live kind t o may. op_sums cpu op live kind t (in_order_is (in_order live) o) may }
