use Rattle.std.proofs.Common.{◌≡◌, Some, slice_set, sym, ap, ◌∙◌}
use Rattle.std.specs.Option.{option_copied_mut}
use Rattle.std.proofs.lemmas.Option.{slice_get_within}
use Rattle.slab_cache.specs.Bits.{class_at}
use Rattle.slab_cache.specs.Shown.{SlabShown}
use Rattle.slab_cache.proofs.TableLemmas.{changed, lent_slab, open_if_free, set_long, takes_one, there, unchanged}
use Rattle.slab_cache.proofs.table.SlabTable.take_place.Goals as goal

pub put-requires : goal.put-requires
put-requires c =
    let items = c.self.inside.slabs.items in
    let here = there items c.args.self.now c.args.frame (Some c.requires.slab) c.self.view_is c.requires.here in
    set_long items c.self.inside.open_frames.items c.args.frame c.class-class.result.index c.index_mut-then-not-is_open.result.now _ c.self.invariant (slice_get_within items c.args.frame (Some c.requires.slab) here) c.class-class.result.known c.index_mut-then-not-is_open.ensures.value

pub invariant_of-self : goal.invariant_of-self
invariant_of-self c =
    let items = c.self.inside.slabs.items in
    let class = c.class-class.result.index in
    let here = there items c.args.self.now c.args.frame (Some c.requires.slab) c.self.view_is c.requires.here in
    let same = lent_slab items c.args.frame c.requires.slab c.unwrap-slab.result.now c.index_mut.result.now _ here c.index_mut.ensures.value (sym (ap option_copied_mut c.unwrap-slab.ensures) ∙ c.as_mut.ensures.value) in
    let own : class_at class ≡ c.requires.slab.slab.class = c.class-class.ensures ∙ ap (λ (s : SlabShown). s.slab.class) same in
    let kept : class_at class ≡ c.take_place-place.new.self.slab.class = c.class-class.ensures ∙ ap (λ (s : SlabShown). s.slab.class) (sym c.take_place-place.ensures.slab) in
    changed items c.self.inside.open_frames.items c.args.frame class c.requires.slab c.take_place-place.new.self c.index_mut-then-not-is_open.result.now c.put.new.self _ c.self.invariant c.class-class.result.known here own kept c.index_mut-then-not-is_open.ensures.value
    (c.put.ensures ∙ ap (slice_set c.index_mut-then-not-is_open.result.now c.args.frame) (sym c.if-not-is_open.true ∙ c.is_open.ensures))

pub invariant_of-self-else-not-is_open : goal.invariant_of-self-else-not-is_open
invariant_of-self-else-not-is_open c =
    let items = c.self.inside.slabs.items in
    let class = c.class-class.result.index in
    let here = there items c.args.self.now c.args.frame (Some c.requires.slab) c.self.view_is c.requires.here in
    let same = lent_slab items c.args.frame c.requires.slab c.unwrap-slab.result.now c.index_mut.result.now _ here c.index_mut.ensures.value (sym (ap option_copied_mut c.unwrap-slab.ensures) ∙ c.as_mut.ensures.value) in
    let own : class_at class ≡ c.requires.slab.slab.class = c.class-class.ensures ∙ ap (λ (s : SlabShown). s.slab.class) same in
    let kept : class_at class ≡ c.take_place-place.new.self.slab.class = c.class-class.ensures ∙ ap (λ (s : SlabShown). s.slab.class) (sym c.take_place-place.ensures.slab) in
    unchanged items c.self.inside.open_frames.items c.args.frame class c.requires.slab c.take_place-place.new.self c.self.invariant c.class-class.result.known here own kept (open_if_free c.requires.slab class own ∙ c.requires.has_free)
    (sym (sym c.if-not-is_open.false ∙ c.is_open.ensures))

pub returns-then-not-is_open : goal.returns-then-not-is_open
returns-then-not-is_open c =
    let items = c.self.inside.slabs.items in
    let here = there items c.args.self.now c.args.frame (Some c.requires.slab) c.self.view_is c.requires.here in
    let same = lent_slab items c.args.frame c.requires.slab c.unwrap-slab.result.now c.index_mut.result.now _ here c.index_mut.ensures.value (sym (ap option_copied_mut c.unwrap-slab.ensures) ∙ c.as_mut.ensures.value) in
    takes_one items c.args.self.now c.args.frame c.requires.slab c.unwrap-slab.result.now c.take_place-place.new.self c.take_place-place.result c.self.view_is c.requires.here same c.take_place-place.ensures.place c.take_place-place.ensures.slab

pub returns-else-not-is_open : goal.returns-else-not-is_open
returns-else-not-is_open c =
    let items = c.self.inside.slabs.items in
    let here = there items c.args.self.now c.args.frame (Some c.requires.slab) c.self.view_is c.requires.here in
    let same = lent_slab items c.args.frame c.requires.slab c.unwrap-slab.result.now c.index_mut.result.now _ here c.index_mut.ensures.value (sym (ap option_copied_mut c.unwrap-slab.ensures) ∙ c.as_mut.ensures.value) in
    takes_one items c.args.self.now c.args.frame c.requires.slab c.unwrap-slab.result.now c.take_place-place.new.self c.take_place-place.result c.self.view_is c.requires.here same c.take_place-place.ensures.place c.take_place-place.ensures.slab
