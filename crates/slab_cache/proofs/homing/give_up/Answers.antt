use Rattle.std.proofs.Common.{◌≡◌, ◌+◌, ◌^◌, ◌≤◌, false, IfSome, length, sym, ap, ◌∙◌, subst}
use Rattle.page_ext.specs.Blocks.{with_frames}
use Rattle.page_ext.specs.Shown.{BlockShown, NodeShown}
use Rattle.slab_cache.specs.Classes.{slab_order}
use Rattle.slab_cache.specs.Shown.{IsNow, SlabNodeShown, Stands, state_of}
use Rattle.slab_cache.specs.Slabs.{with_pages, with_vector}
use Rattle.slab_cache.proofs.HomeLemmas.{given_up, given_up_are}
use Rattle.slab_cache.proofs.NodeLemmas.{shown}
use Rattle.slab_cache.proofs.homing.give_up.Goals as goal

pub invariant_of-node : goal.invariant_of-node
invariant_of-node c = given_up_are c.node.inside.vectors c.give_back.new.vectors c.node.inside.table c.into_parts-block.result.1 c.node.invariant c.give_back.ensures

pub returns-clause-node : goal.returns-clause-node
returns-clause-node c =
    let node = shown c.node.inside.node c.node.inside.vectors c.node.inside.table in
    let back = sym c.node.view_is in
    let stands = subst Stands back c.requires.at_home.stands in
    let slab = c.args.slab in
    let order = slab_order slab.slab.class in
    let vector = c.into_parts-block.result.1 in
    let parts = c.into_parts-block.ensures in
    let within : slab.frame + 2 ^ order ≤ length node.node.node.frames = subst (λ n. slab.frame + 2 ^ order ≤ n) (sym stands.frames) (subst (λ (n : SlabNodeShown). slab.frame + 2 ^ order ≤ length n.slabs) back c.requires.slab.within) in
    let own : c.into_parts-block.result.0.home ≡ c.args.cpu.now.part.number = ap (λ (b : BlockShown). b.home) parts.block ∙ c.requires.slab.home ∙ c.requires.at_home.own in
    let freed : BlockShown → NodeShown = λ b. record node.node { node = with_frames false b.frame b.order node.node.node } in
    let board : slab.board ≡ node.node.board = c.requires.table ∙ sym c.requires.at_home.table ∙ ap (λ (n : SlabNodeShown). n.node.board) back in
    subst (λ n. IsNow (with_vector false slab.slab.vector (with_pages false slab.frame order (state_of n))) n (shown c.free_pages-none.new.node c.give_back.new.vectors c.node.inside.table)) c.node.view_is
    (given_up node c.free_pages-none.new.node c.give_back.new.vectors vector slab.slab.vector slab.frame order stands within ((c.free_pages-none.ensures.home own).1 ∙ ap freed parts.block) c.give_back.ensures parts.vector
    (λ v is. subst (λ o. IfSome o (λ w. w.pool.board ≡ slab.board)) is parts.table ∙ board))
