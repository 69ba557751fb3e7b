use Rattle.std.proofs.Common.{All, IsTrue, None, ◌≡◌}
use Rattle.tag_model.specs.StepRules.{may_begin}
use Rattle.tag_rule.specs.Shown.{CellShown}
use Rattle.reclaim.proofs.tests.yard.fill.Given as goal

abbrev pub invariant-loop-cell : goal.invariant-loop-cell
invariant-loop-cell l = record {
  board : l.cpu.board ≡ l.initial.cpu.board;
  rests : l.cpu.part.hand ≡ None;
  allowed : IsTrue (may_begin l.cpu.board.shape l.tag l.cpu.part.runs);
  there : All (λ (c : CellShown). c.board ≡ l.initial.cpu.board) l.cells;
}
