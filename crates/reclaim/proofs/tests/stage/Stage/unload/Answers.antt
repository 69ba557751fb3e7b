use Rattle.std.proofs.Common.{◌≡◌, sym, ◌∙◌}
use Rattle.reclaim.proofs.Unload.{unload_board}
use Rattle.reclaim.proofs.tests.stage.Stage.unload.Goals as goal

pub invariant_of-self : goal.invariant_of-self
invariant_of-self c =
    let s = c.args.self.now in
    let board : c.unload_locked.new.locked.board ≡ s.locked.board = unload_board s.locked c.unload_locked.new.locked c.args.id c.unload_locked.result c.unload_locked.ensures.answer c.unload_locked.ensures.unloaded c.unload_locked.ensures.err in
    record {
      loads_there = s.loads_there ∙ sym board;
      cpu_there = s.cpu_there ∙ sym board;
      cell_there = s.cell_there ∙ sym board;
      other_there = s.other_there ∙ sym board;
      spare_there = s.spare_there ∙ sym board;
    }
