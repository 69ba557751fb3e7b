use Rattle.std.proofs.Common.{None, ◌≡◌}
use Rattle.reclaim.proofs.tests.yard.wear.Given as goal

abbrev pub invariant-loop : goal.invariant-loop
invariant-loop l = record {
  cell : l.cell.board ≡ l.initial.cell.board;
  spare : l.spare.board ≡ l.initial.spare.board;
  board : l.cpu.board ≡ l.initial.cpu.board;
  rests : l.cpu.part.hand ≡ None;
}
