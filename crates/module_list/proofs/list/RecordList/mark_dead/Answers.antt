use Rattle.std.proofs.Common.{◌≡◌, ℕ, List, [], ◌∷◌, set, true, refl, sym, ap, ◌∙◌, subst, arith}
use Rattle.tag_model.specs.declared.state.Kind.TheVariants.{Bytes}
use Rattle.tag_model.specs.declared.state.Record.{Record}
use Rattle.tag_model.specs.Laws.{ids_of, rises_from}
use Rattle.tag_model.specs.StepRules.{begins_pass}
use Rattle.module_list.specs.Listing.{IsListing, dead_record, marked_dead}
use Rattle.module_list.specs.Stages.{sweep_of}
use Rattle.module_list.proofs.Keeps.{keeps_marked_dead}
use Rattle.module_list.proofs.Methods.{listing, same_listing}
use Rattle.module_list.proofs.Written.{written_as}
use Rattle.module_list.proofs.list.RecordList.mark_dead.Goals as goal

pub begin-self-inside-requires : goal.begin-self-inside-requires
begin-self-inside-requires c =
    let s = c.self.inside in
    let l = listing s.records.items (sweep_of s.stage s.left.items) s.stops.items in
    let written = written_as s.records.items c.deref.result.now c.args.id c.place_of-place.result c.index_mut.result.now dead_record c.deref.ensures.value c.self.invariant.0.rises c.place_of-place.ensures.within c.index_mut.ensures.value c.place_of-place.ensures.there in
    subst (λ rs. rises_from 0 (ids_of rs) ≡ true) (sym (c.deref-2.ensures.value ∙ written)) (keeps_marked_dead l c.args.id c.self.invariant.0).rises

-- the parts of the list behind the mark
marked : (c : goal.After-self-2-1) → listing (set c.self.inside.records.items c.place_of-place.result (dead_record c.index_mut.result.now)) (sweep_of c.begin-self-inside.result c.push.new.self.items) c.clear.new.self.items
    ≡ marked_dead c.args.id (listing c.self.inside.records.items (sweep_of c.self.inside.stage c.self.inside.left.items) c.self.inside.stops.items)
marked c =
    let s = c.self.inside in
    let id = c.args.id in
    let written = written_as s.records.items c.deref.result.now c.args.id c.place_of-place.result c.index_mut.result.now dead_record c.deref.ensures.value c.self.invariant.0.rises c.place_of-place.ensures.within c.index_mut.ensures.value c.place_of-place.ensures.there in
    let items : c.push.new.self.items ≡ id ∷ [] = rw (c.push.ensures.items, c.unwrap.ensures, c.clear-2.ensures.items) refl in
    let begun : List ℕ → List Record → _ = λ ids records. begins_pass Bytes ids records in
    let swept = ap (sweep_of c.begin-self-inside.result) (sym c.deref-3.ensures.value)
    ∙ (c.begin-self-inside.ensures ∙ (ap (λ ids. begun ids c.deref-2.result.now) (c.deref-3.ensures.value ∙ items) ∙ ap (begun (id ∷ [])) (c.deref-2.ensures.value ∙ written))) in
    same_listing _ _ _ _ _ _ (written) swept c.clear.ensures.items

pub invariant_of-self : goal.invariant_of-self
invariant_of-self c =
    let s = c.self.inside in
    let l = listing s.records.items (sweep_of s.stage s.left.items) s.stops.items in (
      subst IsListing (sym (marked c)) (keeps_marked_dead l c.args.id c.self.invariant.0),
      c.self.invariant.1,
      omega (arith, c.push.ensures.capacity, c.clear-2.ensures.capacity, c.self.invariant.2),
      omega (arith, c.clear.ensures.capacity, c.self.invariant.3),
    )

pub returns : goal.returns
returns c = marked c ∙ ap (marked_dead c.args.id) c.self.view_is
