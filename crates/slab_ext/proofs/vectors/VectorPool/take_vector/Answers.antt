use Rattle.std.proofs.Common.{◌≡◌, true, is_some, position, slice_set, sym, ap, ◌∙◌, subst}
use Rattle.slab_ext.specs.Vectors.{AreVectors}
use Rattle.slab_ext.proofs.Slots.{shown, out_goes, lowest_is_in, takes}
use Rattle.slab_ext.proofs.vectors.VectorPool.take_vector.Goals as goal

pub unwrap-requires : goal.unwrap-requires
unwrap-requires c =
    let lowest = c.in-Some.ensures ∙ ap (position is_some) c.deref.ensures.value in
    subst (λ o. is_some o ≡ true) (sym c.take.ensures.value) (lowest_is_in c.self.inside.pools.items c.in-Some.number c.index_mut.result.now lowest c.index_mut.ensures.value)

pub invariant_of-self : goal.invariant_of-self
invariant_of-self c =
    subst (λ slot. AreVectors (shown c.self.inside.cpu (slice_set c.self.inside.pools.items c.in-Some.number slot))) (sym c.take.ensures.after)
    (out_goes c.self.inside.cpu c.in-Some.number c.self.inside.pools.items c.self.invariant)

pub returns-in-Some-clause-takes : goal.returns-in-Some-clause-takes
returns-in-Some-clause-takes c =
    let lowest = c.in-Some.ensures ∙ ap (position is_some) c.deref.ensures.value in
    let gone = takes c.self.inside.cpu c.in-Some.number c.unwrap.result c.self.inside.pools.items c.index_mut.result.now c.self.invariant lowest c.index_mut.ensures.value (sym c.take.ensures.value ∙ c.unwrap.ensures) in
    rw (sym c.self.view_is, c.take.ensures.after) gone
