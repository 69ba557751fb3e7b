use Rattle.std.proofs.Common.{◌∙◌}
use Rattle.reclaim.proofs.Unload.{unload_board}
use Rattle.reclaim.proofs.listed.Listed.unload.Goals as goal

pub invariant_of-self : goal.invariant_of-self
invariant_of-self g c = record {
  named = unload_board c.args.self.now.locked c.unload_locked.new.locked c.args.id c.unload_locked.result c.unload_locked.ensures.answer c.unload_locked.ensures.unloaded c.unload_locked.ensures.err ∙ c.args.self.now.named;
}
