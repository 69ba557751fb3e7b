use Rattle.std.proofs.Common.{◌≡◌, false, sym, subst}
use Rattle.tag_model.specs.RefMoves.{close_moves}
use Rattle.tag_ref.specs.Refs.{moved_by}
use Rattle.slab_cache.specs.Classes.{slab_order}
use Rattle.slab_cache.specs.Shown.{IsNow, SlabShown, state_of}
use Rattle.slab_cache.specs.Slabs.{is_used, slab_held, with_pages, with_place, with_vector}
use Rattle.slab_cache.proofs.HomeLemmas.{home_given_up, out_is}
use Rattle.slab_cache.proofs.homing.place_home.Goals as goal

pub returns-in-Some : goal.returns-in-Some
returns-in-Some c =
    let returns = c.return_place.ensures in
    let left = with_place false c.args.place.place returns.slab in
    let whole : SlabShown = record { board = c.args.node.now.node.board; home = c.args.node.now.vectors.cpu; frame = c.args.place.frame; slab = left } in
    let out = out_is (is_used left) whole c.in-Some.slab c.return_place.result returns.goes c.in-Some.is in
    let middle = c.return_place.new.node in
    home_given_up c.args.place c.args.node.now middle c.give_up.new.node c.return_place.result c.args.cpu.now c.give_up.new.cpu returns out.0 c.requires.at_home.stands c.requires.at_home.own
    (subst (λ (s : SlabShown). IsNow (with_vector false s.slab.vector (with_pages false s.frame (slab_order s.slab.class) (state_of middle))) middle c.give_up.new.node) (sym out.1) c.give_up.ensures.node)
    (subst (λ (s : SlabShown). c.give_up.new.cpu ≡ moved_by (close_moves c.args.cpu.now.part.number (slab_held s.slab.class)) c.args.cpu.now) (sym out.1) c.give_up.ensures.cpu)
