use Rattle.std.proofs.Common.{◌≡◌}
use Rattle.tag_model.specs.Sweeping.{reads_left}
use Rattle.reclaim.specs.Steps.{Reads}
use Rattle.reclaim.proofs.sweeping.read_all.Given as goal

abbrev pub invariant-loop-list : goal.invariant-loop-list
invariant-loop-list l = record {
  board : l.list.board ≡ l.initial.list.board;
  reads : Reads l.initial.list.board.shape l.initial.list.part l.list.part;
}

abbrev pub decreases-loop-list : goal.decreases-loop-list
decreases-loop-list l = reads_left l.list.board.shape l.list.part.records l.list.part.sweep
