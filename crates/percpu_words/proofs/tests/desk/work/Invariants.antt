use Rattle.std.proofs.Common.{All, None, ◌≡◌}
use Rattle.tag_rule.specs.Shown.{CellShown}
use Rattle.percpu_words.proofs.tests.desk.work.Given as goal

abbrev pub invariant-loop-turn : goal.invariant-loop-turn
invariant-loop-turn l = record {
  board : l.cpu.board ≡ l.initial.cpu.board;
  rests : l.cpu.part.hand ≡ None;
  own_there : All (λ (c : CellShown). c.board ≡ l.initial.cpu.board) l.own.items;
  given_there : All (λ (c : CellShown). c.board ≡ l.initial.cpu.board) l.given.items;
}
