use Rattle.std.proofs.Common.{position, ap, ◌∙◌}
use Rattle.slab_cache.specs.Bits.{class_at}
use Rattle.slab_cache.specs.Tables.{is_open_slab}
use Rattle.slab_cache.proofs.TableLemmas.{position_of_map, set_of}
use Rattle.slab_cache.proofs.table.SlabTable.open_frame.Goals as goal

pub returns : goal.returns
returns c =
    c.lowest.ensures ∙ ap (position (λ inside. inside)) (c.index.ensures ∙ set_of c.self.inside.slabs.items c.self.inside.open_frames.items c.args.class.index _ c.self.invariant c.args.class.known)
    ∙ position_of_map (λ inside. inside) (is_open_slab (class_at c.args.class.index)) c.self.inside.slabs.items ∙ ap (position (is_open_slab (class_at c.args.class.index))) c.self.view_is
