use Rattle.std.proofs.Common.{◌≡◌, ◌<◌, List, Option, Some, None, length, get_or, slice_set, sym, subst, ◌∙◌}
use Rattle.slab_cache.specs.Shown.{SlabShown}
use Rattle.slab_cache.specs.Tables.{IsTable}
use Rattle.slab_cache.proofs.TableLemmas.{IsOf, any_default, put_right, set_long}
use Rattle.slab_cache.proofs.table.SlabTable.take_out.Goals as goal

pub put-requires : goal.put-requires
put-requires c =
    let within : c.args.frame < length c.self.inside.slabs.items = subst (λ (ss : List (Option SlabShown)). c.args.frame < length ss) (sym c.self.view_is) c.requires in
    set_long c.self.inside.slabs.items c.self.inside.open_frames.items c.args.frame c.class.result.index c.index_mut-in-Some.result.now _ c.self.invariant within c.class.result.known c.index_mut-in-Some.ensures.value

pub invariant_of-self : goal.invariant_of-self
invariant_of-self c =
    let items = c.self.inside.slabs.items in
    let sets = c.self.inside.open_frames.items in
    let class = c.class.result.index in
    let within : c.args.frame < length items = subst (λ (ss : List (Option SlabShown)). c.args.frame < length ss) (sym c.self.view_is) c.requires in
    let was : get_or items c.args.frame None ≡ Some c.in-Some.slab = any_default items c.args.frame None _ within ∙ sym c.index_mut.ensures.value ∙ sym c.replace-was.ensures.value ∙ c.in-Some.is in
    subst (λ slab. IsTable (slice_set items c.args.frame slab) (slice_set sets class c.put.new.self)) (sym c.replace-was.ensures.after)
    (put_right items sets c.args.frame class None c.index_mut-in-Some.result.now c.put.new.self _ c.self.invariant c.class.result.known tt (subst (IsOf class) (sym was) c.class.ensures) c.index_mut-in-Some.ensures.value c.put.ensures)
