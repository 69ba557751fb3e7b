use Rattle.std.proofs.Common.{◌≡◌}
use Rattle.tag_model.specs.Sweeping.{reads_left}
use Rattle.reclaim.specs.Quiet.{OwnReads}
use Rattle.reclaim.proofs.quiet.read_own_all.Given as goal

abbrev pub invariant-loop-reader : goal.invariant-loop-reader
invariant-loop-reader l = record {
  board : l.list.board ≡ l.initial.list.board;
  reads : OwnReads l.initial.list.board.shape l.initial.cpus l.initial.list.part l.list.part;
  same : l.cpus ≡ l.initial.cpus;
}

abbrev pub decreases-loop-reader : goal.decreases-loop-reader
decreases-loop-reader l = reads_left l.list.board.shape l.list.part.records l.list.part.sweep
