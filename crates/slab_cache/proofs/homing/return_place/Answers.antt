use Rattle.std.proofs.Common.{sym, ap, ◌∙◌, subst}
use Rattle.slab_cache.specs.Calls.{IsOf, ReturnsPlace}
use Rattle.slab_cache.specs.Shown.{IsOfTable, SlabNodeShown, Stands, cell_of, state_of, storage_of}
use Rattle.slab_cache.specs.declared.object.Stored.TheVariants.{InSlab}
use Rattle.slab_cache.proofs.HomeLemmas.{has_place, returned, returned_are}
use Rattle.slab_cache.proofs.NodeLemmas.{shown}
use Rattle.slab_cache.proofs.homing.return_place.Goals as goal

pub give_place-requires : goal.give_place-requires
give_place-requires c =
    let node = shown c.node.inside.node c.node.inside.vectors c.node.inside.table in
    let back = sym c.node.view_is in
    has_place node c.args.place.home c.args.place.frame c.args.place.place c.args.place.cell (subst Stands back c.requires.stands) c.node.invariant (subst (λ (n : SlabNodeShown). IsOfTable n.node.board (cell_of (InSlab c.args.place))) back c.requires.table)
    c.requires.closed c.requires.suits (c.requires.home ∙ ap (λ (n : SlabNodeShown). n.vectors.cpu) back) (subst (λ n. IsOf (state_of n) (storage_of (InSlab c.args.place))) back c.requires.of_node)

pub invariant_of-node : goal.invariant_of-node
invariant_of-node c =
    let node = shown c.node.inside.node c.node.inside.vectors c.node.inside.table in
    returned_are node c.args.place c.give_place.new.self c.give_place.result (subst Stands (sym c.node.view_is) c.requires.stands) c.node.invariant c.give_place.ensures

pub returns : goal.returns
returns c =
    let node = shown c.node.inside.node c.node.inside.vectors c.node.inside.table in
    subst (λ n. ReturnsPlace c.args.place n (shown c.node.inside.node c.node.inside.vectors c.give_place.new.self) c.give_place.result) c.node.view_is
    (returned node c.args.place c.give_place.new.self c.give_place.result (subst Stands (sym c.node.view_is) c.requires.stands) c.node.invariant c.give_place.ensures)
