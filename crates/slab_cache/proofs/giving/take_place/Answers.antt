use Rattle.std.proofs.Common.{sym, subst}
use Rattle.tag_model.specs.Shape.{IsChecked}
use Rattle.slab_cache.specs.Bits.{class_at}
use Rattle.slab_cache.specs.Calls.{IsOpenIn, TakesPlaceOf}
use Rattle.slab_cache.specs.Shown.{SlabNodeShown, Stands, state_of}
use Rattle.slab_cache.proofs.GivenLemmas.{open_at_frame, place_are, place_taken}
use Rattle.slab_cache.proofs.NodeLemmas.{shown}
use Rattle.slab_cache.proofs.giving.take_place.Goals as goal

pub take_place-requires : goal.take_place-requires
take_place-requires c =
    let node = shown c.node.inside.node c.node.inside.vectors c.node.inside.table in
    let back = sym c.node.view_is in
    open_at_frame node (class_at c.args.class.index) c.args.frame (subst Stands back c.requires.stands) (subst (λ (n : SlabNodeShown). IsChecked n.node.board.shape) back c.requires.checked)
    (subst (λ n. IsOpenIn (class_at c.args.class.index) c.args.frame (state_of n)) back c.requires.open)

pub invariant_of-node : goal.invariant_of-node
invariant_of-node c =
    let node = shown c.node.inside.node c.node.inside.vectors c.node.inside.table in
    place_are node c.args.frame c.take_place.new.self c.take_place.result (subst Stands (sym c.node.view_is) c.requires.stands) c.node.invariant c.take_place.ensures

pub returns : goal.returns
returns c =
    let node = shown c.node.inside.node c.node.inside.vectors c.node.inside.table in
    subst (λ n. TakesPlaceOf c.args.frame n (shown c.node.inside.node c.node.inside.vectors c.take_place.new.self) c.take_place.result) c.node.view_is
    (place_taken node c.args.frame c.take_place.new.self c.take_place.result (subst Stands (sym c.node.view_is) c.requires.stands) c.node.invariant c.take_place.ensures)
