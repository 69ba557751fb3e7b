use Rattle.std.proofs.Common.{sym, ap, ◌∙◌, subst}
use Rattle.slab_cache.specs.Bits.{class_at}
use Rattle.slab_cache.specs.Shown.{SlabNodeShown, Stands}
use Rattle.slab_cache.proofs.GivenLemmas.{slab_block_of, stands_pages, within_frames}
use Rattle.slab_cache.proofs.NodeLemmas.{shown}
use Rattle.slab_cache.proofs.giving.new_slab.Goals as goal

pub put_slab-requires-clause-stands : goal.put_slab-requires-clause-stands
put_slab-requires-clause-stands c =
    let node = shown c.node.inside.node c.node.inside.vectors c.node.inside.table in
    let gives = c.in_ok-block.ensures.gives in
    stands_pages _ c.in_ok-block.block.frame c.order.result node c.slab_pages.new.node (subst Stands (sym c.node.view_is) c.requires.at_home.stands) (within_frames c.node.inside.node.node.frames c.order.result c.in_ok-block.block.frame gives.start) gives.taken

pub put_slab-requires-clause-block : goal.put_slab-requires-clause-block
put_slab-requires-clause-block c =
    let node = shown c.node.inside.node c.node.inside.vectors c.node.inside.table in
    slab_block_of (class_at c.args.class.index) c.order.result node c.slab_pages.new.node c.args.cpu.now c.slab_pages.new.cpu c.in_ok-block.block (subst Stands (sym c.node.view_is) c.requires.at_home.stands) (ap (λ (n : SlabNodeShown). n.node.board) c.node.view_is ∙ c.requires.at_home.table)
    c.order.ensures.value c.in_ok-block.ensures.gives
