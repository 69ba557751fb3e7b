-- A release finds nothing counted under the record's tags, and keeps all the laws.
use Rattle.std.proofs.Common.{◌≡◌, ℕ, ◌<◌, ◌≤◌, ◌==◌, ◌&&◌, ◌⊎◌, nat_lt, nat_le, List, [], ◌∷◌, sum_by, count_by, filter, refl, sym, ap, ◌∙◌, subst, inl, inr, arith, Bool, true, false, not, cond, eqb-true, eq-eqb, ne_eqb, Option, Some, None, if◌then◌else◌}
use Rattle.std.specs.List.{list_any, list_all}
use Rattle.std.proofs.lemmas.Bool.{and_parts, and_from, not-true, cases_eq, cases_lt, and_left, not-false, false_from_ne_true}
use Rattle.std.proofs.lemmas.List.Sums.{sum_by-cons, sum_by-le-sum_by}
use Rattle.tag_model.specs.declared.shape.Shape.{Shape}
use Rattle.tag_model.specs.declared.state.Hand.{Hand}
use Rattle.tag_model.specs.declared.state.Held.{Held}
use Rattle.tag_model.specs.declared.state.Held.TheVariants as held
use Rattle.tag_model.specs.declared.state.Kind.{Kind}
use Rattle.tag_model.specs.declared.state.Kind.TheVariants.{Calls}
use Rattle.tag_model.specs.declared.state.ListPart.{ListPart}
use Rattle.tag_model.specs.declared.state.Part.{Part}
use Rattle.tag_model.specs.declared.state.Part.TheVariants.{Cpu, Place, Modules, NextId}
use Rattle.tag_model.specs.declared.state.Record.{Record}
use Rattle.tag_model.specs.declared.state.Run.{Run}
use Rattle.tag_model.specs.declared.state.Sweep.TheVariants as sweep
use Rattle.tag_model.specs.declared.state.Tag.{Tag}
use Rattle.tag_model.specs.Laws.{Safe, CoverLaw, IsCovered, is_loaded_as, same_run, same_note, contradicts, runs_of_cpu, rises_from, ids_of, is_listed, covers_listed, are_dead, has_cleared, sweep_fits}
use Rattle.tag_model.specs.Reference.{amount, hand_counts, hand_counts_of, held_counts, held_counts_of}
use Rattle.tag_model.specs.Shape.{IsChecked}
use Rattle.tag_model.specs.StepRules.{Releases, Becomes, without_id}
use Rattle.tag_model.specs.WordState.{one_if, Every, counted, counted_of, in_range, records_with, runs_with, notes_with, users_of, next_id, record_fits}
use Rattle.tag_model.proofs.Alike.{of_users, of_records, of_high}
use Rattle.tag_model.proofs.BookRows.{ListStep, list_step, list_kept}
use Rattle.tag_model.proofs.Found.{found, found_any, any_at, all_at, count_at, count_apart}
use Rattle.tag_model.proofs.Ids.{all_filter, any_filter, filter_any, rises_without, dead_without, listed_without}
use Rattle.tag_model.proofs.ListRows.{OneList}
use Rattle.tag_model.proofs.Lists.{listed_is_dead, record_fits_means, never_both}
use Rattle.tag_model.proofs.LoadRow.{none_high}
use Rattle.tag_model.proofs.Parts.{becomes_same}
use Rattle.tag_model.proofs.Passes.{SweepOk}
use Rattle.tag_model.proofs.Records.{some_run, all_weaker_listed}
use Rattle.tag_model.proofs.Swept.{ListLaws, loaded_as_means}

-- ---- what is counted under a tag of a module is counted under its number

cond_and : (p q : Bool) (x : ℕ) → cond {A = ℕ} (p && q) x 0 ≤ cond p x 0
cond_and true true x = omega arith
cond_and true false x = omega arith
cond_and false q x = omega arith

hand_of_tag : (kind : Kind) (tag : Tag) (o : Option Hand) → hand_counts_of kind tag o ≤ hand_counts kind tag.number o
hand_of_tag kind tag None = omega arith
hand_of_tag kind tag (Some h) = cond_and (h.tag.number == tag.number) (h.tag.module == tag.module) (amount kind h.bytes h.calls)

held_of_tag : (kind : Kind) (tag : Tag) (h : Held) → held_counts_of kind tag h ≤ held_counts kind tag.number h
held_of_tag kind tag held.None = omega arith
held_of_tag kind tag held.Empty = omega arith
held_of_tag kind tag (held.Counted own size) = cond_and (own.number == tag.number) (own.module == tag.module) (amount kind size 1)

counted_of_at : (kind : Kind) (tag : Tag) (p : Part) → counted_of kind tag p ≤ counted kind tag.number p
counted_of_at kind tag (Cpu c) = hand_of_tag kind tag c.hand
counted_of_at kind tag (Place n h) = held_of_tag kind tag h
counted_of_at kind tag (Modules l) = omega arith
counted_of_at kind tag (NextId id) = omega arith

pub counted_of_number : (kind : Kind) (tag : Tag) (ps : List Part) → sum_by (counted_of kind tag) ps ≤ sum_by (counted kind tag.number) ps
counted_of_number kind tag ps = sum_by-le-sum_by (counted_of kind tag) (counted kind tag.number) ps (counted_of_at kind tag)

-- ---- a list of records without those of an id

abbrev pub others : ℕ → List Record → List Record
others id records = filter (λ (r : Record). not (r.id == id)) records

pub sum_others : (f : Record → ℕ) (id : ℕ) (records : List Record) → sum_by f (others id records) ≤ sum_by f records
sum_others f id [] = omega arith
sum_others f id (r ∷ records) = go (not (r.id == id)) (sum_others f id records)
  where
    go : (b : Bool) → sum_by f (others id records) ≤ sum_by f records → sum_by f (cond b (r ∷ others id records) (others id records)) ≤ sum_by f (r ∷ records)
    go true h = omega (arith, sum_by-cons f r (others id records), sum_by-cons f r records)
    go false h = omega (arith, sum_by-cons f r records)

-- a number that no record of the id has is the same without them
pub sum_others_same : (f : Record → ℕ) (id : ℕ) (records : List Record) → ((r : Record) → r.id ≡ id → f r ≡ 0) → sum_by f (others id records) ≡ sum_by f records
sum_others_same f id [] none = refl
sum_others_same f id (r ∷ records) none = go (not (r.id == id)) refl (sum_others_same f id records none)
  where
    go : (b : Bool) → not (r.id == id) ≡ b → sum_by f (others id records) ≡ sum_by f records → sum_by f (cond b (r ∷ others id records) (others id records)) ≡ sum_by f (r ∷ records)
    go true is h = omega (arith, sum_by-cons f r (others id records), sum_by-cons f r records)
    go false is h = omega (arith, sum_by-cons f r records, none r (eqb-true r.id id (not-false (r.id == id) is)))

-- no record of the id is left
sum_of_id : (f : Record → ℕ) (id : ℕ) (records : List Record) → sum_by (λ (r : Record). if r.id == id then f r else 0) (others id records) ≡ 0
sum_of_id f id [] = refl
sum_of_id f id (r ∷ records) = go (not (r.id == id)) refl (sum_of_id f id records)
  where
    go : (b : Bool) → not (r.id == id) ≡ b → sum_by (λ (x : Record). if x.id == id then f x else 0) (others id records) ≡ 0 → sum_by (λ (x : Record). if x.id == id then f x else 0) (cond b (r ∷ others id records) (others id records)) ≡ 0
    go true is h =
        let none : cond {A = ℕ} (r.id == id) (f r) 0 ≡ 0 = rw (not-true (r.id == id) is) refl in
        omega (arith, sum_by-cons (λ (x : Record). if x.id == id then f x else 0) r (others id records))
    go false is h = h

pub ids_others : (id : ℕ) (records : List Record) → ids_of (others id records) ≡ without_id id (ids_of records)
ids_others id [] = refl
ids_others id (r ∷ records) = go (not (r.id == id)) (ids_others id records)
  where
    go : (b : Bool) → ids_of (others id records) ≡ without_id id (ids_of records) → ids_of (cond b (r ∷ others id records) (others id records)) ≡ cond b (r.id ∷ without_id id (ids_of records)) (without_id id (ids_of records))
    go true h = ap (λ ids. r.id ∷ ids) h
    go false h = h

-- ---- what a release finds

-- nothing is counted under a tag number in the range of a record that the sweep's list has when it is done
pub done_range : (k : Shape) (left : List ℕ) (id : ℕ) (l : ListPart) (ps : List Part) → SweepOk k l.sweep l.records ps → l.sweep ≡ sweep.Done left → is_listed left id ≡ true
    → (kind : Kind) (t : ℕ) → 0 < count_by (λ (r : Record). (r.id == id) && in_range r.start r.length t) l.records → sum_by (counted kind t) ps ≡ 0
done_range k left id l ps ok done listed kind t h =
    let f = found (λ (r : Record). (r.id == id) && in_range r.start r.length t) l.records h in
    let both = and_parts (f.item.id == id) (in_range f.item.start f.item.length t) f.passes in
    let covers : covers_listed left t l.records ≡ true =
    subst (λ xs. covers_listed left t xs ≡ true) (sym f.is) (any_at (λ (r : Record). is_listed left r.id && in_range r.start r.length t) f.front f.item f.back (and_from _ _ (subst (λ x. is_listed left x ≡ true) (sym (eqb-true f.item.id id both.0)) listed) both.1)) in
    ok.cleared kind t (subst (λ s. has_cleared s kind t l.records ≡ true) (sym done) covers)

-- a listed record has an id above 0
listed_above : (k : Shape) (left : List ℕ) (id : ℕ) (l : ListPart) → ListLaws k l → are_dead left l.records ≡ true → is_listed left id ≡ true → 0 < id
listed_above k left id l laws dead listed =
    let f = found_any (λ (r : Record). (r.id == id) && r.dead) l.records (listed_is_dead left l.records id dead listed) in
    let fit = record_fits_means k f.item (all_at (record_fits k) f.front f.item f.back (subst (λ xs. list_all (record_fits k) xs ≡ true) f.is laws.records_fit)) in
    omega (arith, fit, eqb-true f.item.id id (and_parts (f.item.id == id) f.item.dead f.passes).0)

-- nor under a tag of its module
pub done_module : (k : Shape) (left : List ℕ) (id : ℕ) (l : ListPart) (ps : List Part) → OneList l ps → ListLaws k l → CoverLaw k ps → SweepOk k l.sweep l.records ps → l.sweep ≡ sweep.Done left → is_listed left id ≡ true
    → (tag : Tag) → tag.module ≡ id → sum_by (counted_of Calls tag) ps ≡ 0
done_module k left id l ps o laws cover ok done listed tag is = go (cases_lt 0 (sum_by (counted_of Calls tag) ps))
  where
    dead : are_dead left l.records ≡ true
    dead = (and_parts (rises_from 0 left) (are_dead left l.records) (subst (λ s. sweep_fits k s l.records ≡ true) done ok.fits)).1

    covered : IsCovered k ps tag → sum_by (counted_of Calls tag) ps ≡ 0
    covered (inl kernel) = absurd (omega (arith, listed_above k left id l laws dead listed, is, kernel.0))
    covered (inr there) =
        let here : 0 < count_by (λ (r : Record). (r.id == id) && in_range r.start r.length tag.number) l.records =
        subst (λ m. 0 < count_by (λ (r : Record). (r.id == m) && in_range r.start r.length tag.number) l.records) is (omega (arith, o.only (records_with (λ r. (r.id == tag.module) && in_range r.start r.length tag.number)) (of_records _))) in
        omega (arith, done_range k left id l ps ok done listed Calls tag.number here, counted_of_number Calls tag ps)

    go : (0 < sum_by (counted_of Calls tag) ps) ⊎ (sum_by (counted_of Calls tag) ps ≤ 0) → sum_by (counted_of Calls tag) ps ≡ 0
    go (inl some) = covered (cover.named tag some)
    go (inr none) = omega arith

-- ---- the row

pub safe-releases : (k : Shape) (left : List ℕ) (id : ℕ) (old new : ListPart) (ps qs : List Part) → IsChecked k → Releases left id old new → Becomes (Modules old ∷ []) (Modules new ∷ []) ps qs → Safe k ps → Safe k qs
safe-releases k left id old new ps qs checked row steps safe =
    list_kept k old n ps qs s (all_filter (record_fits k) (λ r. not (r.id == id)) old.records s.laws.records_fit)
    (subst (λ ids. rises_from 0 ids ≡ true) (sym (ids_others id old.records)) (rises_without id 0 (ids_of old.records) s.laws.rise)) cover
    (record {
      fits = and_from _ _ (rises_without id 0 left fit.0) (all_weaker_listed (λ other. list_any (λ (r : Record). (r.id == other) && r.dead) old.records) (λ other. list_any (λ (r : Record). (r.id == other) && r.dead) after) (without_id id left) still_dead (dead_without id left old.records fit.1));
      reading = tt;
      cleared = λ kind t e. ok.cleared kind t (covers t e);
    })
  where
    after : List Record
    after = others id old.records

    n : ListPart
    n = record old { records = after; sweep = sweep.Done (without_id id left) }

    b : Becomes (Modules old ∷ []) (Modules n ∷ []) ps qs
    b = subst (λ y. Becomes (Modules old ∷ []) (Modules y ∷ []) ps qs) row.after steps

    s : ListStep k old n ps qs
    s = list_step k old n ps qs b safe

    ok : SweepOk k (sweep.Done left) old.records ps
    ok = subst (λ x. SweepOk k x old.records ps) row.done s.sweep

    fit : (rises_from 0 left ≡ true) × (are_dead left old.records ≡ true)
    fit = and_parts (rises_from 0 left) (are_dead left old.records) ok.fits

    same : (f : Part → ℕ) → f (Modules n) ≡ f (Modules old) → sum_by f qs ≡ sum_by f ps
    same f e = becomes_same f (Modules old ∷ []) (Modules n ∷ []) ps qs b (omega arith)

    fewer : (test : Record → Bool) → sum_by (records_with test) qs ≤ sum_by (records_with test) ps
    fewer test = omega (arith, b.before (records_with test), b.after (records_with test), sum_others (λ (r : Record). cond {A = ℕ} (test r) 1 0) id old.records)

    -- a test that no record of the id passes
    kept : (test : Record → Bool) → ((r : Record) → r.id ≡ id → test r ≡ false) → sum_by (records_with test) qs ≡ sum_by (records_with test) ps
    kept test none = same (records_with test) (sum_others_same (λ (r : Record). cond {A = ℕ} (test r) 1 0) id old.records (λ r is. ap (λ x. cond {A = ℕ} x 1 0) (none r is)))

    still_dead : (other : ℕ) → is_listed (without_id id left) other ≡ true → list_any (λ (r : Record). (r.id == other) && r.dead) old.records ≡ true → list_any (λ (r : Record). (r.id == other) && r.dead) after ≡ true
    still_dead other listed e =
        let apart = (listed_without id left other listed).1 in
        let f = found_any (λ (r : Record). (r.id == other) && r.dead) old.records e in
        let is = eqb-true f.item.id other (and_parts (f.item.id == other) f.item.dead f.passes).0 in
        filter_any (λ r. (r.id == other) && r.dead) (λ r. not (r.id == id)) old.records
        (subst (λ xs. list_any (λ (r : Record). ((r.id == other) && r.dead) && not (r.id == id)) xs ≡ true) (sym f.is)
        (any_at (λ (r : Record). ((r.id == other) && r.dead) && not (r.id == id)) f.front f.item f.back (and_from _ _ f.passes (ap not (ne_eqb f.item.id id (λ same_id. apart (sym is ∙ same_id)))))))

    covers : (t : ℕ) → covers_listed (without_id id left) t after ≡ true → covers_listed left t old.records ≡ true
    covers t e =
        let f = found_any (λ (r : Record). (is_listed (without_id id left) r.id && in_range r.start r.length t) && not (r.id == id)) old.records (any_filter (λ r. is_listed (without_id id left) r.id && in_range r.start r.length t) (λ r. not (r.id == id)) old.records e) in
        let front = (and_parts (is_listed (without_id id left) f.item.id && in_range f.item.start f.item.length t) (not (f.item.id == id)) f.passes).0 in
        let both = and_parts (is_listed (without_id id left) f.item.id) (in_range f.item.start f.item.length t) front in
        subst (λ xs. covers_listed left t xs ≡ true) (sym f.is) (any_at (λ (r : Record). is_listed left r.id && in_range r.start r.length t) f.front f.item f.back (and_from _ _ (listed_without id left f.item.id both.0).0 both.1))

    -- no loaded record has the id
    not_loaded : (run : Run) → 0 < sum_by (runs_with (same_run run)) ps → run.id ≡ id → ⊥
    not_loaded run there is =
        let loaded = found (is_loaded_as run) old.records (omega (arith, safe.cover.runs run there, s.before.only (records_with (is_loaded_as run)) (of_records _))) in
        let like = loaded_as_means run loaded.item loaded.passes in
        let dead = found_any (λ (r : Record). (r.id == id) && r.dead) old.records (listed_is_dead left old.records id fit.1 row.listed) in
        let one_dead : 0 < count_by (λ (r : Record). (r.id == id) && r.dead) old.records = subst (λ xs. 0 < count_by (λ (r : Record). (r.id == id) && r.dead) xs) (sym dead.is) (count_at (λ (r : Record). (r.id == id) && r.dead) dead.front dead.item dead.back dead.passes) in
        let one_live : 0 < count_by (λ (r : Record). (r.id == id) && not r.dead) old.records = subst (λ xs. 0 < count_by (λ (r : Record). (r.id == id) && not r.dead) xs) (sym loaded.is) (count_at (λ (r : Record). (r.id == id) && not r.dead) loaded.front loaded.item loaded.back (and_from _ _ (eq-eqb loaded.item.id id (like.id ∙ is)) like.loaded)) in
        omega (
          arith,
          s.laws.apart id,
          count_apart (λ (r : Record). (r.id == id) && r.dead) (λ (r : Record). (r.id == id) && not r.dead) (λ (r : Record). r.id == id) old.records
              (λ r e. (and_parts (r.id == id) r.dead e).0) (λ r e. (and_parts (r.id == id) (not r.dead) e).0) (λ r e f. never_both r.dead (and_parts (r.id == id) r.dead e).1 (and_parts (r.id == id) (not r.dead) f).1),
        )

    no_run : sum_by (runs_with (λ r. r.id == id)) ps ≡ 0
    no_run = go (cases_lt 0 (sum_by (runs_with (λ r. r.id == id)) ps))
      where
        go : (0 < sum_by (runs_with (λ r. r.id == id)) ps) ⊎ (sum_by (runs_with (λ r. r.id == id)) ps ≤ 0) → sum_by (runs_with (λ r. r.id == id)) ps ≡ 0
        go (inl some) = let r = some_run (λ x. x.id == id) ps some in absurd (not_loaded r.run r.there (eqb-true r.run.id id r.passes))
        go (inr none) = omega arith

    cover : CoverLaw k qs
    cover = record {
      ids_below_next =
          subst (λ next. Every (λ p. (records_with (λ r. not (nat_lt r.id next)) p == 0)) qs) (sym (same next_id refl))
          (let none = none_high (sum_by next_id ps) old ps s.before safe.cover.ids_below_next in
          let now : count_by (λ (r : Record). not (nat_lt r.id (sum_by next_id ps))) after ≡ 0 = omega (arith, sum_others (λ (r : Record). cond {A = ℕ} (not (nat_lt r.id (sum_by next_id ps))) 1 0) id old.records) in
          let here : one_if (not (count_by (λ (r : Record). not (nat_lt r.id (sum_by next_id ps))) after == 0)) ≡ 0 = rw now refl in
          s.after.only (λ p. one_if (not (records_with (λ r. not (nat_lt r.id (sum_by next_id ps))) p == 0))) (of_high (sum_by next_id ps)) ∙ here);
      ids_apart = λ other. omega (arith, fewer (λ r. r.id == other), safe.cover.ids_apart other);
      ranges_apart = λ t. omega (arith, fewer (λ r. in_range r.start r.length t), safe.cover.ranges_apart t);
      named = λ tag h. covered tag (omega (arith, same (counted_of Calls tag) refl));
      runs = λ run h. loaded run (omega (arith, same (runs_with (same_run run)) refl));
      one_run = λ other. omega (arith, safe.cover.one_run other, same (λ p. one_if (not (nat_le (runs_of_cpu other p) 1))) refl);
      users = λ other. users other (cases_eq id other);
      notes_known = λ note h. omega (arith, same next_id refl, safe.cover.notes_known note (omega (arith, same (notes_with (same_note note)) refl)));
      notes_agree = λ note h. omega (arith, fewer (contradicts note), safe.cover.notes_agree note (omega (arith, same (notes_with (same_note note)) refl)));
    }
      where
        covered : (tag : Tag) → 0 < sum_by (counted_of Calls tag) ps → IsCovered k qs tag
        covered tag some = go (safe.cover.named tag some)
          where
            apart : (r : Record) → r.id ≡ id → ((r.id == tag.module) && in_range r.start r.length tag.number) ≡ false
            apart r is = and_left _ _ (ne_eqb r.id tag.module (λ e. omega (arith, done_module k left id old ps s.before s.laws safe.cover s.sweep row.done row.listed tag (sym e ∙ is))))

            go : IsCovered k ps tag → IsCovered k qs tag
            go (inl h) = inl h
            go (inr h) = inr (omega (arith, kept (λ r. (r.id == tag.module) && in_range r.start r.length tag.number) apart))

        loaded : (run : Run) → 0 < sum_by (runs_with (same_run run)) ps → 0 < sum_by (records_with (is_loaded_as run)) qs
        loaded run there = omega (arith, safe.cover.runs run there, kept (is_loaded_as run) (λ r is. false_from_ne_true (is_loaded_as run r) (λ e. not_loaded run there (sym (loaded_as_means run r e).id ∙ is))))

        users : (other : ℕ) → (id ≡ other) ⊎ (id ≡ other → ⊥) → sum_by (runs_with (λ r. r.id == other)) qs ≡ sum_by (users_of other) qs
        users other (inl e) =
            subst (λ x. sum_by (runs_with (λ r. r.id == x)) qs ≡ sum_by (users_of x) qs) e
            (omega (arith, same (runs_with (λ r. r.id == id)) refl, no_run, s.after.only (users_of id) (of_users id), sum_of_id (λ r. r.users) id old.records))
        users other (inr ne) =
            omega (
              arith,
              safe.cover.users other,
              same (runs_with (λ r. r.id == other)) refl,
              same (users_of other) (sum_others_same (λ (r : Record). if r.id == other then r.users else 0) id old.records (λ r is. ap (λ x. cond {A = ℕ} x r.users 0) (ne_eqb r.id other (λ e. ne (sym is ∙ e))))),
            )

-- ---- the theorem of a release

pub release_is_dead : (k : Shape) (left : List ℕ) (id : ℕ) (old new : ListPart) (ps qs : List Part) → Releases left id old new → Becomes (Modules old ∷ []) (Modules new ∷ []) ps qs → Safe k ps → list_any (λ (r : Record). (r.id == id) && r.dead) old.records ≡ true
release_is_dead k left id old new ps qs row steps safe =
    let s = list_step k old new ps qs steps safe in
    let fits = subst (λ x. sweep_fits k x old.records ≡ true) row.done s.sweep.fits in
    listed_is_dead left old.records id (and_parts (rises_from 0 left) (are_dead left old.records) fits).1 row.listed

pub release_of_module : (k : Shape) (left : List ℕ) (id : ℕ) (old new : ListPart) (ps qs : List Part) → Releases left id old new → Becomes (Modules old ∷ []) (Modules new ∷ []) ps qs → Safe k ps
    → (tag : Tag) → tag.module ≡ id → sum_by (counted_of Calls tag) ps ≡ 0
release_of_module k left id old new ps qs row steps safe tag is =
    let s = list_step k old new ps qs steps safe in
    done_module k left id old ps s.before s.laws safe.cover s.sweep row.done row.listed tag is

pub release_in_range : (k : Shape) (left : List ℕ) (id : ℕ) (old new : ListPart) (ps qs : List Part) → Releases left id old new → Becomes (Modules old ∷ []) (Modules new ∷ []) ps qs → Safe k ps
    → (kind : Kind) (t : ℕ) → 0 < count_by (λ (r : Record). (r.id == id) && in_range r.start r.length t) old.records → sum_by (counted kind t) ps ≡ 0
release_in_range k left id old new ps qs row steps safe kind t there =
    let s = list_step k old new ps qs steps safe in
    done_range k left id old ps s.sweep row.done row.listed kind t there
