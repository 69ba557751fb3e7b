use Rattle.std.proofs.Common.{◌≡◌, IsTrue}
use Rattle.tag_model.specs.Laws.{sweep_fits}
use Rattle.core_list.specs.declared.tests.TheConstants.{FIRST, TAGS}
use Rattle.core_list.specs.ListState.{IsList, records_of}
use Rattle.core_list.proofs.tests.sweep.Given as goal

abbrev pub invariant-loop-word : goal.invariant-loop-word
invariant-loop-word g l = record {
  is_list : IsList l.list;
  fits : IsTrue (sweep_fits l.shape l.list.sweep (records_of l.list));
  first : l.list.area.first ≡ FIRST;
  tags : l.list.area.tags ≡ TAGS;
}
