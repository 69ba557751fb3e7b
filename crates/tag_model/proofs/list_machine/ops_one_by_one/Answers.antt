use Rattle.tag_model.specs.declared.state.Held.TheVariants as held
use Rattle.tag_model.specs.ListMachine.{in_order}
use Rattle.std.proofs.Common.{arith}
use Rattle.tag_model.proofs.LiveLists.{in_order_is}
use Rattle.tag_model.proofs.OpMoves.{opened, closed, split_bytes, split_calls, swapped, trim_bytes, trim_calls}
use Rattle.tag_model.proofs.list_machine.ops_one_by_one.Goals as goal

pub returns : goal.returns
returns c = record {
  opened = λ kind t place tag size live o may. opened kind t place (held.Counted tag size) live (in_order_is (in_order live) o) may.0;
  marked = λ kind t place live o may. omega (arith, opened kind t place held.Empty live (in_order_is (in_order live) o) may);
  closed = λ kind t place live o. closed kind t place live (in_order_is (in_order live) o);
  split_keeps_bytes = λ t place others live o may. split_bytes t place others live (in_order_is (in_order live) o) may;
  split_adds_calls = λ t place others live o may. split_calls t place others live (in_order_is (in_order live) o) may;
  swapped = λ kind t one two live o. swapped kind t one two live (in_order_is (in_order live) o);
  trim_lowers_bytes = λ t place bytes tag size live o is less. trim_bytes t place bytes tag size live (in_order_is (in_order live) o) is less;
  trim_keeps_calls = λ t place bytes live o. trim_calls t place bytes live (in_order_is (in_order live) o);
}
