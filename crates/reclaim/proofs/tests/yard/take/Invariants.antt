use Rattle.std.proofs.Common.{All, ◌≡◌}
use Rattle.tag_rule.specs.Shown.{CellShown}
use Rattle.reclaim.proofs.tests.yard.take.Given as goal

abbrev pub invariant-loop : goal.invariant-loop
invariant-loop l = record {
  taken : All (λ (c : CellShown). c.board ≡ l.locked.board) l.taken.items;
  left : All (λ (c : CellShown). c.board ≡ l.locked.board) l.cells.items;
}
