use Rattle.slab_cache.proofs.TableLemmas.{new_table}
use Rattle.slab_cache.proofs.table.SlabTable.new.Goals as goal

pub invariant_of-result : goal.invariant_of-result
invariant_of-result c = new_table c.args.frames c.in_ok-no_slabs.field-0.items c.in_ok-no_frames.field-0.items c.requires c.in_ok-no_slabs.ensures c.in_ok-no_frames.ensures
