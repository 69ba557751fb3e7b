use Rattle.std.proofs.Common.{refl, sym, ap, ◌∙◌, subst, arith}
use Rattle.tag_model.specs.declared.state.Kind.TheVariants.{Bytes}
use Rattle.tag_model.specs.StepRules.{begins_pass, dead_ids}
use Rattle.module_list.specs.Listing.{IsListing}
use Rattle.module_list.specs.Stages.{sweep_of}
use Rattle.module_list.proofs.Keeps.{keeps_swept}
use Rattle.module_list.proofs.Methods.{listing, same_listing}
use Rattle.module_list.proofs.list.RecordList.sweep.Goals as goal

pub invariant_of-self : goal.invariant_of-self
invariant_of-self c =
    let s = c.self.inside in
    let l = listing s.records.items (sweep_of s.stage s.left.items) s.stops.items in
    let swept = ap (sweep_of c.begin-self-inside.result) (sym c.deref-3.ensures.value)
    ∙ (c.begin-self-inside.ensures ∙ (ap (λ ids. begins_pass Bytes ids c.deref-2.result.now) (c.deref-3.ensures.value ∙ (c.list_dead.ensures.ids ∙ ap dead_ids c.deref.ensures.value)) ∙ ap (begins_pass Bytes (dead_ids s.records.items)) c.deref-2.ensures.value)) in
    let same = same_listing s.records.items s.records.items _ _ _ _ refl swept c.clear.ensures.items in (
      subst IsListing (sym same) (keeps_swept l c.self.invariant.0),
      c.self.invariant.1,
      c.list_dead.ensures.room,
      omega (arith, c.clear.ensures.capacity, c.self.invariant.3),
    )
