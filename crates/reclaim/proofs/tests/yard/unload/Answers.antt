use Rattle.reclaim.proofs.Unload.{unload_board}
use Rattle.reclaim.proofs.tests.yard.unload.Goals as goal

pub returns : goal.returns
returns c = unload_board c.args.locked.now c.unload_locked.new.locked c.args.id c.unload_locked.result c.unload_locked.ensures.answer c.unload_locked.ensures.unloaded c.unload_locked.ensures.err
