use Rattle.std.proofs.lemmas.Bool.{ne_eqb}
use Rattle.slab_cache.proofs.SlabLemmas.{not_open, open_is}
use Rattle.slab_cache.proofs.slab.Slab.is_open.Goals as goal

pub returns-then-self-class : goal.returns-then-self-class
returns-then-self-class c = open_is c.self.inside.class.index c.args.class.index c.self.inside.free c.self.inside.block c.self.inside.vector c.args.self.now c.self.view_is c.self.invariant c.if-self-class.true

pub returns-else-self-class : goal.returns-else-self-class
returns-else-self-class c =
    not_open c.self.inside.class.index c.args.class.index c.self.inside.free c.self.inside.block c.self.inside.vector c.args.self.now _ c.self.view_is c.self.inside.class.known c.args.class.known c.if-self-class.false (ne_eqb _ _ c.if-self-class.false)
