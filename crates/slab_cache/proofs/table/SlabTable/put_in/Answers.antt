use Rattle.std.proofs.Common.{◌≡◌, List, Option, Some, None, slice_get, slice_set, sym, ap, subst, ◌∙◌}
use Rattle.std.proofs.lemmas.Option.{get_or_from_slice_get, slice_get_within}
use Rattle.slab_cache.specs.Shown.{SlabShown}
use Rattle.slab_cache.specs.Tables.{IsTable}
use Rattle.slab_cache.proofs.TableLemmas.{IsOf, put_right, set_long}
use Rattle.slab_cache.proofs.table.SlabTable.put_in.Goals as goal

pub put-requires : goal.put-requires
put-requires c =
    let items = c.self.inside.slabs.items in
    let here : slice_get items c.args.frame ≡ Some None = subst (λ (ss : List (Option SlabShown)). slice_get ss c.args.frame ≡ Some None) (sym c.self.view_is) c.requires in
    set_long items c.self.inside.open_frames.items c.args.frame c.class-class.result.index c.index_mut.result.now _ c.self.invariant (slice_get_within items c.args.frame None here) c.class-class.result.known c.index_mut.ensures.value

pub invariant_of-self : goal.invariant_of-self
invariant_of-self c =
    let items = c.self.inside.slabs.items in
    let sets = c.self.inside.open_frames.items in
    let class = c.class-class.result.index in
    let set = c.index_mut.result.now in
    let here : slice_get items c.args.frame ≡ Some None = subst (λ (ss : List (Option SlabShown)). slice_get ss c.args.frame ≡ Some None) (sym c.self.view_is) c.requires in
    subst (λ slab. IsTable (slice_set items c.args.frame slab) (slice_set sets class c.put.new.self)) (sym c.replace-none.ensures.after)
    (put_right items sets c.args.frame class (Some c.args.slab) set c.put.new.self _ c.self.invariant c.class-class.result.known c.class-class.ensures (subst (IsOf class) (sym (get_or_from_slice_get items c.args.frame None None here)) tt) c.index_mut.ensures.value
    (c.put.ensures ∙ ap (slice_set set c.args.frame) c.is_open.ensures))
