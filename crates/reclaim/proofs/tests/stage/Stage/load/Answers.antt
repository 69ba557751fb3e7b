use Rattle.std.proofs.Common.{◌≡◌, sym, ◌∙◌}
use Rattle.reclaim.proofs.Boards.{load_board, pass_board}
use Rattle.reclaim.proofs.tests.stage.Stage.load.Goals as goal

pub invariant_of-self : goal.invariant_of-self
invariant_of-self c =
    let s = c.args.self.now in
    let board : c.load_locked.new.locked.board ≡ s.locked.board = load_board c.args.section s.loads.next s.locked c.load_locked.new.locked c.load_locked.result c.load_locked.ensures.answer in
    record {
      loads_there = pass_board s.loads c.load_locked.new.pass c.load_locked.result c.load_locked.ensures.ok c.load_locked.ensures.err ∙ (s.loads_there ∙ sym board);
      cpu_there = s.cpu_there ∙ sym board;
      cell_there = s.cell_there ∙ sym board;
      other_there = s.other_there ∙ sym board;
      spare_there = s.spare_there ∙ sym board;
    }
