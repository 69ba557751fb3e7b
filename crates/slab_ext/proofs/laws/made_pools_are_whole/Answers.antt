use Rattle.slab_ext.proofs.Made.{made_whole}
use Rattle.slab_ext.proofs.laws.made_pools_are_whole.Goals as goal

pub returns : goal.returns
returns c = made_whole
