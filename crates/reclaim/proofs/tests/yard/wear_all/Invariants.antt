use Rattle.std.proofs.Common.{All, None, ◌≡◌}
use Rattle.tag_rule.specs.Shown.{CellShown}
use Rattle.reclaim.proofs.tests.yard.wear_all.Given as goal

abbrev pub invariant-loop-cell : goal.invariant-loop-cell
invariant-loop-cell l = record {
  board : l.cpu.board ≡ l.initial.cpu.board;
  rests : l.cpu.part.hand ≡ None;
  spare : l.spare.board ≡ l.initial.spare.board;
  there : All (λ (c : CellShown). c.board ≡ l.initial.cpu.board) l.cells;
}
