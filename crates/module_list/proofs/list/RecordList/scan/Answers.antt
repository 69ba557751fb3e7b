use Rattle.std.proofs.Common.{◌≡◌, ℕ, ◌==◌, not, [], ◌∷◌, ◌++◌, rules, refl, sym, ap, ◌∙◌, subst, arith, IsTrue}
use Rattle.std.proofs.lemmas.Fn.{filter_same}
use Rattle.tag_model.specs.declared.state.Stop.{Stop}
use Rattle.tag_model.specs.Laws.{sweep_fits}
use Rattle.tag_model.specs.StepRules.{without_id, passes_record}
use Rattle.module_list.specs.Listing.{Listing, IsListing, scanned, sum_read}
use Rattle.module_list.specs.Stages.{sweep_of}
use Rattle.module_list.proofs.Keeps.{keeps_scanned}
use Rattle.module_list.proofs.Methods.{listing, scan_drops, tag_small}
use Rattle.module_list.proofs.list.RecordList.scan.Goals as goal

pub next_tag-self-inside-requires-clause-below : goal.next_tag-self-inside-requires-clause-below
next_tag-self-inside-requires-clause-below c =
    let s = c.self.inside in
    let fits = subst (λ (l : Listing). IsTrue (sweep_fits c.args.shape l.sweep l.records)) (sym c.self.view_is) c.requires.fits in
    tag_small c.args.shape s.records.items s.left.items c.in-Reading.reader c.self.invariant.0.ends (subst (λ stage. IsTrue (sweep_fits c.args.shape (sweep_of stage s.left.items) s.records.items)) c.in-Reading.is fits)

dropped : (c : goal.After-self-2-1) → listing c.self.inside.records.items (sweep_of c.pass_record-self-inside.result c.retain.new.self.items) c.push.new.self.items
    ≡ scanned c.args.shape c.args.word (listing c.self.inside.records.items (sweep_of c.self.inside.stage c.self.inside.left.items) c.self.inside.stops.items)
dropped c =
    let s = c.self.inside in
    let r = c.in-Reading.reader in
    let kept : c.retain.new.self.items ≡ without_id r.id s.left.items = filter_same _ (λ (other : ℕ). not (other == r.id)) _ (λ x b f' k. search rules) _ _ c.retain.ensures.filtered in
    let stop : Stop = record { id = r.id; tag = r.tag; kind = r.pass; sum = sum_read r c.args.word } in
    let items : c.push.new.self.items ≡ s.stops.items ++ stop ∷ [] = rw (c.push.ensures.items, c.unwrap.ensures) refl in
    let passes = ap (sweep_of c.pass_record-self-inside.result) (sym c.deref-3.ensures.value)
    ∙ (c.pass_record-self-inside.ensures ∙ (ap (λ ids. passes_record r.pass ids c.deref-2.result.now r.id) (c.deref-3.ensures.value ∙ kept) ∙ ap (λ records. passes_record r.pass (without_id r.id s.left.items) records r.id) c.deref-2.ensures.value)) in
    scan_drops c.args.shape c.args.word s.records.items s.left.items r s.stops.items c.push.new.self.items (sweep_of c.pass_record-self-inside.result c.retain.new.self.items) c.if-reader-shape.false c.if-reader-eq0.false passes items
    ∙ ap (λ stage. scanned c.args.shape c.args.word (listing s.records.items (sweep_of stage s.left.items) s.stops.items)) (sym c.in-Reading.is)

pub invariant_of-self-2 : goal.invariant_of-self-2
invariant_of-self-2 c =
    let s = c.self.inside in
    let l = listing s.records.items (sweep_of s.stage s.left.items) s.stops.items in
    let fits = subst (λ (l : Listing). IsTrue (sweep_fits c.args.shape l.sweep l.records)) (sym c.self.view_is) c.requires.fits in (
      subst IsListing (sym (dropped c)) (keeps_scanned c.args.shape c.args.word l c.self.invariant.0 fits),
      c.self.invariant.1,
      omega (arith, c.retain.ensures.capacity, c.self.invariant.2),
      omega (arith, c.push.ensures.capacity, c.self.invariant.3),
    )

pub returns-clause-after : goal.returns-clause-after
returns-clause-after c = dropped c ∙ ap (scanned c.args.shape c.args.word) c.self.view_is
