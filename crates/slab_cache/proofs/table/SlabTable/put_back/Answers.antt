use Rattle.std.proofs.Common.{◌≡◌, Some, true, not, slice_set, sym, ap, ◌∙◌}
use Rattle.std.specs.List.{list_any}
use Rattle.std.specs.Option.{option_copied_mut}
use Rattle.std.proofs.lemmas.Option.{slice_get_within}
use Rattle.slab_cache.specs.Bits.{class_at}
use Rattle.slab_cache.specs.Shown.{SlabShown}
use Rattle.slab_cache.specs.Tables.{is_open_slab, slab_without}
use Rattle.slab_cache.proofs.TableLemmas.{changed, has_free_place, lent_slab, gets_one, open_if_free, set_long, there, unchanged}
use Rattle.slab_cache.proofs.table.SlabTable.put_back.Goals as goal

pub put-requires : goal.put-requires
put-requires c =
    let items = c.self.inside.slabs.items in
    let frame = c.args.place.frame in
    let slab = c.requires.slab in
    let here = there items c.args.self.now frame (Some slab) c.self.view_is c.requires.here in
    set_long items c.self.inside.open_frames.items frame c.class-class.result.index c.index_mut-then-not-was_open.result.now _ c.self.invariant (slice_get_within items frame (Some slab) here) c.class-class.result.known c.index_mut-then-not-was_open.ensures.value

pub invariant_of-self : goal.invariant_of-self
invariant_of-self c =
    let items = c.self.inside.slabs.items in
    let frame = c.args.place.frame in
    let slab = c.requires.slab in
    let here = there items c.args.self.now frame (Some slab) c.self.view_is c.requires.here in
    let same = lent_slab items frame slab c.unwrap-slab.result.now c.index_mut.result.now _ here c.index_mut.ensures.value (sym (ap option_copied_mut c.unwrap-slab.ensures) ∙ c.as_mut.ensures.value) in
    let class = c.class-class.result.index in
    let own : class_at class ≡ slab.slab.class = c.class-class.ensures ∙ ap (λ (s : SlabShown). s.slab.class) same in
    let kept : class_at class ≡ c.give_place.new.self.slab.class = c.class-class.ensures ∙ ap (λ (s : SlabShown). s.slab.class) (sym c.give_place.ensures) in
    let left : c.give_place.new.self ≡ slab_without c.args.place.place slab = c.give_place.ensures ∙ ap (slab_without c.args.place.place) same in
    let is_free : list_any not c.give_place.new.self.slab.places ≡ true = ap (λ (s : SlabShown). list_any not s.slab.places) left ∙ has_free_place slab c.args.place.place c.requires.taken in
    let now_open : is_open_slab (class_at class) (Some c.give_place.new.self) ≡ true = open_if_free c.give_place.new.self class kept ∙ is_free in
    changed items c.self.inside.open_frames.items frame class slab c.give_place.new.self c.index_mut-then-not-was_open.result.now c.put.new.self _ c.self.invariant c.class-class.result.known here own kept c.index_mut-then-not-was_open.ensures.value
    (c.put.ensures ∙ ap (slice_set c.index_mut-then-not-was_open.result.now frame) (sym now_open))

pub invariant_of-self-else-not-was_open : goal.invariant_of-self-else-not-was_open
invariant_of-self-else-not-was_open c =
    let items = c.self.inside.slabs.items in
    let frame = c.args.place.frame in
    let slab = c.requires.slab in
    let here = there items c.args.self.now frame (Some slab) c.self.view_is c.requires.here in
    let same = lent_slab items frame slab c.unwrap-slab.result.now c.index_mut.result.now _ here c.index_mut.ensures.value (sym (ap option_copied_mut c.unwrap-slab.ensures) ∙ c.as_mut.ensures.value) in
    let class = c.class-class.result.index in
    let own : class_at class ≡ slab.slab.class = c.class-class.ensures ∙ ap (λ (s : SlabShown). s.slab.class) same in
    let kept : class_at class ≡ c.give_place.new.self.slab.class = c.class-class.ensures ∙ ap (λ (s : SlabShown). s.slab.class) (sym c.give_place.ensures) in
    let left : c.give_place.new.self ≡ slab_without c.args.place.place slab = c.give_place.ensures ∙ ap (slab_without c.args.place.place) same in
    let is_free : list_any not c.give_place.new.self.slab.places ≡ true = ap (λ (s : SlabShown). list_any not s.slab.places) left ∙ has_free_place slab c.args.place.place c.requires.taken in
    let now_open : is_open_slab (class_at class) (Some c.give_place.new.self) ≡ true = open_if_free c.give_place.new.self class kept ∙ is_free in
    unchanged items c.self.inside.open_frames.items frame class slab c.give_place.new.self c.self.invariant c.class-class.result.known here own kept
    (ap (λ (s : SlabShown). is_open_slab (class_at class) (Some s)) (sym same) ∙ sym c.is_open-was_open.ensures ∙ c.if-not-was_open.false) now_open

pub returns-then-not-was_open : goal.returns-then-not-was_open
returns-then-not-was_open c =
    let items = c.self.inside.slabs.items in
    let frame = c.args.place.frame in
    let slab = c.requires.slab in
    let here = there items c.args.self.now frame (Some slab) c.self.view_is c.requires.here in
    let same = lent_slab items frame slab c.unwrap-slab.result.now c.index_mut.result.now _ here c.index_mut.ensures.value (sym (ap option_copied_mut c.unwrap-slab.ensures) ∙ c.as_mut.ensures.value) in
    gets_one items c.args.self.now slab c.unwrap-slab.result.now c.give_place.new.self c.args.place c.is_used-is_used.result c.self.view_is c.requires.here same c.give_place.ensures c.is_used-is_used.ensures

pub returns-else-not-was_open : goal.returns-else-not-was_open
returns-else-not-was_open c =
    let items = c.self.inside.slabs.items in
    let frame = c.args.place.frame in
    let slab = c.requires.slab in
    let here = there items c.args.self.now frame (Some slab) c.self.view_is c.requires.here in
    let same = lent_slab items frame slab c.unwrap-slab.result.now c.index_mut.result.now _ here c.index_mut.ensures.value (sym (ap option_copied_mut c.unwrap-slab.ensures) ∙ c.as_mut.ensures.value) in
    gets_one items c.args.self.now slab c.unwrap-slab.result.now c.give_place.new.self c.args.place c.is_used-is_used.result c.self.view_is c.requires.here same c.give_place.ensures c.is_used-is_used.ensures
