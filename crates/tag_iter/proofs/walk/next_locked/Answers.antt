use Rattle.tag_iter.proofs.Left.{next_is_least}
use Rattle.tag_iter.proofs.walk.next_locked.Goals as goal

pub returns-then-is_some-clause-least : goal.returns-then-is_some-clause-least
returns-then-is_some-clause-least c = next_is_least c.args.iter.now c.args.locked.now c.place_above-next.result c.tell.ensures c.place_above-next.ensures

pub returns-else-is_some-clause-least : goal.returns-else-is_some-clause-least
returns-else-is_some-clause-least c = next_is_least c.args.iter.now c.args.locked.now c.place_above-next.result c.tell.ensures c.place_above-next.ensures
