use Rattle.slab_cache.proofs.FrameSets.{flips}
use Rattle.slab_cache.proofs.frame_set.put_bit.Goals as goal

pub returns-then-is_set-inside : goal.returns-then-is_set-inside
returns-then-is_set-inside c = flips c.args.words.now c.flip.new.words c.args.bit c.is_set.result c.args.inside c.is_set.ensures c.if-is_set-inside.true c.flip.ensures
