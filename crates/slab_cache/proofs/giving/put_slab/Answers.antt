use Rattle.std.proofs.Common.{Some, slice_set, sym, ap, ◌∙◌, subst}
use Rattle.slab_cache.specs.Bits.{class_at}
use Rattle.slab_cache.specs.Calls.{IsSlabBlock, with_made_slab}
use Rattle.slab_cache.specs.Shown.{IsNow, Stands, state_of}
use Rattle.slab_cache.proofs.GivenLemmas.{put_are, put_is}
use Rattle.slab_cache.proofs.NodeLemmas.{shown, vector_taken}
use Rattle.slab_cache.proofs.giving.put_slab.Goals as goal

pub invariant_of-node : goal.invariant_of-node
invariant_of-node c =
    let node = shown c.node.inside.node c.node.inside.vectors c.node.inside.table in
    let taken = vector_taken c.node.inside.vectors c.take_vector-vector.new.self c.take_vector-vector.result c.take_vector-vector.ensures.none c.take_vector-vector.ensures.takes c.take_vector-vector.ensures.same in
    put_are (class_at c.args.class.index) node c.args.block c.take_vector-vector.new.self c.take_vector-vector.result c.new.result c.replace-none.new.self c.node.invariant (subst (λ n. IsSlabBlock (class_at c.args.class.index) n c.args.block) (sym c.node.view_is) c.requires.block) taken
    c.new.ensures (c.replace-none.ensures.table ∙ ap (λ f. slice_set c.node.inside.table f (Some c.new.result)) c.frame-frame.ensures)

pub returns-clause-node : goal.returns-clause-node
returns-clause-node c =
    let node = shown c.node.inside.node c.node.inside.vectors c.node.inside.table in
    let taken = vector_taken c.node.inside.vectors c.take_vector-vector.new.self c.take_vector-vector.result c.take_vector-vector.ensures.none c.take_vector-vector.ensures.takes c.take_vector-vector.ensures.same in
    subst (λ n. IsNow (with_made_slab (class_at c.args.class.index) c.args.block.frame (state_of n)) n (shown c.node.inside.node c.take_vector-vector.new.self c.replace-none.new.self)) c.node.view_is
    (put_is (class_at c.args.class.index) node c.args.block c.take_vector-vector.new.self c.take_vector-vector.result c.new.result c.replace-none.new.self (subst Stands (sym c.node.view_is) c.requires.stands)
    (subst (λ n. IsSlabBlock (class_at c.args.class.index) n c.args.block) (sym c.node.view_is) c.requires.block) taken c.new.ensures (c.replace-none.ensures.table ∙ ap (λ f. slice_set c.node.inside.table f (Some c.new.result)) c.frame-frame.ensures))
