use Rattle.std.proofs.Common.{◌≡◌, drop}
use Rattle.round_worker.specs.Cells.{first_some, slab_word}
use Rattle.round_worker.proofs.cells.word_among.Given as goal

abbrev pub invariant-loop-frame : goal.invariant-loop-frame
invariant-loop-frame l = first_some (slab_word l.cell) (drop l.frame l.node.slabs) ≡ first_some (slab_word l.cell) l.node.slabs
