use Rattle.std.proofs.Common.{◌≡◌, ℕ, ◌==◌, filter, not, rules, sym, ap, ◌∙◌, subst, arith, IsTrue}
use Rattle.std.proofs.lemmas.Fn.{filter_same}
use Rattle.tag_model.specs.declared.state.Record.{Record}
use Rattle.tag_model.specs.StepRules.{without_id}
use Rattle.module_list.specs.Listing.{Listing, IsListing, may_release, released}
use Rattle.module_list.specs.Stages.{sweep_of}
use Rattle.module_list.proofs.Keeps.{keeps_released}
use Rattle.module_list.proofs.Methods.{listing, released_as}
use Rattle.module_list.proofs.list.RecordList.release.Goals as goal

-- the parts of the list behind the release
dropped : (c : goal.After-retain-2) → listing c.retain.new.self.items (sweep_of c.self.inside.stage c.retain-2.new.self.items) c.self.inside.stops.items
    ≡ released c.args.id (listing c.self.inside.records.items (sweep_of c.self.inside.stage c.self.inside.left.items) c.self.inside.stops.items)
dropped c =
    let s = c.self.inside in
    let records : c.retain.new.self.items ≡ filter (λ (r : Record). not (r.id == c.args.id)) s.records.items = filter_same _ (λ (r : Record). not (r.id == c.args.id)) _ (λ x b f' k. search rules) _ _ c.retain.ensures.filtered in
    let ids : c.retain-2.new.self.items ≡ without_id c.args.id s.left.items = filter_same _ (λ (other : ℕ). not (other == c.args.id)) _ (λ x b f' k. search rules) _ _ c.retain-2.ensures.filtered in
    let may = subst (λ (l : Listing). IsTrue (may_release c.args.id l.sweep)) (sym c.self.view_is) c.requires in
    released_as s.records.items c.retain.new.self.items s.stage s.left.items c.retain-2.new.self.items s.stops.items c.args.id may records ids

pub invariant_of-self : goal.invariant_of-self
invariant_of-self c =
    let s = c.self.inside in
    let l = listing s.records.items (sweep_of s.stage s.left.items) s.stops.items in (
      subst IsListing (sym (dropped c)) (keeps_released l c.args.id c.self.invariant.0),
      omega (arith, c.retain.ensures.capacity, c.self.invariant.1),
      omega (arith, c.retain-2.ensures.capacity, c.self.invariant.2),
      c.self.invariant.3,
    )

pub returns : goal.returns
returns c = dropped c ∙ ap (released c.args.id) c.self.view_is
