use Rattle.tag_model.specs.ListMachine.{in_order, done}
use Rattle.tag_model.proofs.LiveLists.{in_order_is, in_order_so, none_twice, held_here, held_elsewhere}
use Rattle.tag_model.proofs.OpMoves.{op_in_order}
use Rattle.tag_model.proofs.list_machine.places_of_live_lists.Goals as goal

pub returns : goal.returns
returns c = record {
  in_order = λ op live o. in_order_so (in_order (done op live)) (op_in_order op live (in_order_is (in_order live) o));
  none_twice = λ live place o. none_twice place live (in_order_is (in_order live) o);
  here = held_here;
  elsewhere = held_elsewhere;
}
