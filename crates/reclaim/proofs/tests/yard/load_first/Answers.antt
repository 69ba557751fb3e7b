use Rattle.reclaim.proofs.Boards.{load_board}
use Rattle.reclaim.proofs.tests.yard.load_first.Goals as goal

pub returns : goal.returns
returns c = load_board 1 c.args.loads.now.next c.args.locked.now c.load_locked.new.locked c.load_locked.result c.load_locked.ensures.answer
