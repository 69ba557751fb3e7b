-- A loaded record with no users is marked dead, and a sweep of it alone begins: all the laws stay.
use Rattle.std.proofs.Common.{◌≡◌, ℕ, ◌<◌, ◌==◌, ◌&&◌, ◌||◌, ◌⊎◌, nat_lt, nat_le, List, [], ◌∷◌, ◌++◌, sum_by, refl, sym, ap, ◌∙◌, subst, inl, inr, arith, true, false, not, cond, eqb-true, eq-eqb, lt-ltb, if◌then◌else◌}
use Rattle.std.specs.List.{list_all}
use Rattle.std.proofs.lemmas.Bool.{and_parts, and_from, or_cases, or_left, false≢true, cases_Bool}
use Rattle.tag_model.specs.declared.shape.Shape.{Shape}
use Rattle.tag_model.specs.declared.state.Kind.TheVariants.{Bytes, Calls}
use Rattle.tag_model.specs.declared.state.ListPart.{ListPart}
use Rattle.tag_model.specs.declared.state.Note.{Note}
use Rattle.tag_model.specs.declared.state.Part.{Part}
use Rattle.tag_model.specs.declared.state.Part.TheVariants.{Modules}
use Rattle.tag_model.specs.declared.state.Record.{Record}
use Rattle.tag_model.specs.declared.state.Run.{Run}
use Rattle.tag_model.specs.declared.state.Tag.{Tag}
use Rattle.tag_model.specs.Laws.{Safe, CoverLaw, IsCovered, is_loaded_as, same_run, same_note, contradicts, runs_of_cpu, rises_from}
use Rattle.tag_model.specs.Shape.{IsChecked}
use Rattle.tag_model.specs.StepRules.{MarksDead, Becomes, begins_pass}
use Rattle.tag_model.specs.WordState.{one_if, Every, counted_of, in_range, records_with, runs_with, notes_with, users_of, next_id, record_fits}
use Rattle.tag_model.proofs.Alike.{of_users}
use Rattle.tag_model.proofs.Bounds.{fresh}
use Rattle.tag_model.proofs.BookRows.{ListStep, list_step, list_kept}
use Rattle.tag_model.proofs.Found.{any_at, all_at, sum_at, cond_more}
use Rattle.tag_model.proofs.Ids.{field_here}
use Rattle.tag_model.proofs.Lists.{RecordFits, record_fits_means}
use Rattle.tag_model.proofs.Parts.{becomes_same}
use Rattle.tag_model.proofs.Passes.{begins_pass_ok}
use Rattle.tag_model.proofs.Records.{count_swap, all_swap, ids_swap, runs_more}
use Rattle.tag_model.proofs.Swept.{loaded_as_means}

same_run_id : (run other : Run) → same_run run other ≡ true → (other.id == run.id) ≡ true
same_run_id run other e =
    let b = and_parts ((run.id == other.id) && (run.section == other.section)) (run.start == other.start) (and_parts ((run.id == other.id) && (run.section == other.section) && (run.start == other.start)) (run.length == other.length) e).0 in
    eq-eqb other.id run.id (sym (eqb-true run.id other.id (and_parts (run.id == other.id) (run.section == other.section) b.0).0))

-- a dead record contradicts no more notes than the loaded one did
dead_contradicts : (n : Note) (r : Record) → contradicts n (record r { dead = true }) ≡ true → contradicts n r ≡ true
dead_contradicts n r e =
    let both = and_parts (r.id == n.id) (not ((r.section == n.section) && (r.start == n.start) && (r.length == n.length)) || (n.seen_dead && false)) e in
    and_from _ _ both.0 (go (or_cases (not ((r.section == n.section) && (r.start == n.start) && (r.length == n.length))) (n.seen_dead && false) both.1))
  where
    go : (not ((r.section == n.section) && (r.start == n.start) && (r.length == n.length)) ≡ true) ⊎ ((n.seen_dead && false) ≡ true) → (not ((r.section == n.section) && (r.start == n.start) && (r.length == n.length)) || (n.seen_dead && not r.dead)) ≡ true
    go (inl other) = or_left _ _ other
    go (inr never) = absurd (false≢true (and_parts n.seen_dead false never).1)

pub safe-marks_dead : (k : Shape) (old new : ListPart) (ps qs : List Part) → IsChecked k → MarksDead old new → Becomes (Modules old ∷ []) (Modules new ∷ []) ps qs → Safe k ps → Safe k qs
safe-marks_dead k old new ps qs checked row steps safe =
    list_kept k o n ps qs s fits (subst (λ ids. rises_from 0 ids ≡ true) (sym (ids_swap row.front row.entry changed row.back refl)) s.laws.rise) cover
    (begins_pass_ok k Bytes (row.entry.id ∷ []) after ps
    (record { some_cpu = checked.some_cpu; fit = fits; apart = λ id. omega (arith, count_swap (λ (r : Record). r.id == id) row.front row.entry changed row.back refl, s.laws.apart id); fresh = fresh k ps checked safe.each safe.fits safe.sums })
    (and_from _ _ (lt-ltb 0 row.entry.id fit.id_above) refl)
    (and_from _ _ (any_at (λ (r : Record). (r.id == row.entry.id) && r.dead) row.front changed row.back (and_from _ _ (eq-eqb row.entry.id row.entry.id refl) refl)) refl)
    (λ e. absurd (false≢true e)))
  where
    changed : Record
    changed = record row.entry { dead = true }

    after : List Record
    after = row.front ++ changed ∷ row.back

    o : ListPart
    o = record old { records = row.front ++ row.entry ∷ row.back }

    n : ListPart
    n = record old { records = after; sweep = begins_pass Bytes (row.entry.id ∷ []) after; stops = [] }

    b : Becomes (Modules o ∷ []) (Modules n ∷ []) ps qs
    b = subst (λ y. Becomes (Modules y ∷ []) (Modules n ∷ []) ps qs) (λ i. record old { records = row.there i }) (subst (λ y. Becomes (Modules old ∷ []) (Modules y ∷ []) ps qs) row.after steps)

    s : ListStep k o n ps qs
    s = list_step k o n ps qs b safe

    fit : RecordFits k row.entry
    fit = record_fits_means k row.entry (all_at (record_fits k) row.front row.entry row.back s.laws.records_fit)

    fits : list_all (record_fits k) after ≡ true
    fits = all_swap (record_fits k) row.front row.entry changed row.back refl ∙ s.laws.records_fit

    same : (f : Part → ℕ) → f (Modules n) ≡ f (Modules o) → sum_by f qs ≡ sum_by f ps
    same f e = becomes_same f (Modules o ∷ []) (Modules n ∷ []) ps qs b (omega arith)

    -- no run is on the record
    no_run : sum_by (runs_with (λ r. r.id == row.entry.id)) ps ≡ 0
    no_run = omega (arith, safe.cover.users row.entry.id, s.before.only (users_of row.entry.id) (of_users row.entry.id), field_here (λ r. r.users) row.front row.entry row.back row.entry.id refl (s.laws.apart row.entry.id), row.unused)

    cover : CoverLaw k qs
    cover = record {
      ids_below_next =
          subst (λ next. Every (λ p. (records_with (λ r. not (nat_lt r.id next)) p == 0)) qs) (sym (same next_id refl))
          (omega (
            arith,
            safe.cover.ids_below_next,
            same (λ p. one_if (not (records_with (λ r. not (nat_lt r.id (sum_by next_id ps))) p == 0)))
                (ap (λ x. one_if (not (x == 0))) (count_swap (λ (r : Record). not (nat_lt r.id (sum_by next_id ps))) row.front row.entry changed row.back refl)),
          ));
      ids_apart = λ id. omega (arith, same (records_with (λ r. r.id == id)) (count_swap (λ (r : Record). r.id == id) row.front row.entry changed row.back refl), safe.cover.ids_apart id);
      ranges_apart = λ t. omega (arith, same (records_with (λ r. in_range r.start r.length t)) (count_swap (λ (r : Record). in_range r.start r.length t) row.front row.entry changed row.back refl), safe.cover.ranges_apart t);
      named = λ tag h. covered tag (safe.cover.named tag (omega (arith, same (counted_of Calls tag) refl)));
      runs = λ run h. loaded run (omega (arith, same (runs_with (same_run run)) refl)) (cases_Bool (is_loaded_as run row.entry));
      one_run = λ id. omega (arith, safe.cover.one_run id, same (λ p. one_if (not (nat_le (runs_of_cpu id p) 1))) refl);
      users = λ id. omega (
        arith,
        safe.cover.users id,
        same (runs_with (λ r. r.id == id)) refl,
        b.before (users_of id),
        b.after (users_of id),
        sum_at (λ (r : Record). if r.id == id then r.users else 0) row.front row.entry row.back,
        sum_at (λ (r : Record). if r.id == id then r.users else 0) row.front changed row.back,
      );
      notes_known = λ note h. omega (arith, same next_id refl, safe.cover.notes_known note (omega (arith, same (notes_with (same_note note)) refl)));
      notes_agree = λ note h. omega (
        arith,
        b.before (records_with (contradicts note)),
        b.after (records_with (contradicts note)),
        safe.cover.notes_agree note (omega (arith, same (notes_with (same_note note)) refl)),
        sum_at (λ (r : Record). cond {A = ℕ} (contradicts note r) 1 0) row.front row.entry row.back,
        sum_at (λ (r : Record). cond {A = ℕ} (contradicts note r) 1 0) row.front changed row.back,
        cond_more (contradicts note changed) (contradicts note row.entry) (dead_contradicts note row.entry),
      );
    }
      where
        covered : (tag : Tag) → IsCovered k ps tag → IsCovered k qs tag
        covered tag (inl h) = inl h
        covered tag (inr h) = inr (omega (arith, same (records_with (λ r. (r.id == tag.module) && in_range r.start r.length tag.number)) (count_swap (λ (r : Record). (r.id == tag.module) && in_range r.start r.length tag.number) row.front row.entry changed row.back refl)))

        loaded : (run : Run) → 0 < sum_by (runs_with (same_run run)) ps → (is_loaded_as run row.entry ≡ true) ⊎ (is_loaded_as run row.entry ≡ false) → 0 < sum_by (records_with (is_loaded_as run)) qs
        loaded run h (inl e) =
            let id = (loaded_as_means run row.entry e).id in
            absurd (omega (arith, no_run, runs_more (same_run run) (λ r. r.id == row.entry.id) ps (λ r same_as. subst (λ x. (r.id == x) ≡ true) (sym id) (same_run_id run r same_as))))
        loaded run h (inr e) =
            let none : cond {A = ℕ} (is_loaded_as run row.entry) 1 0 ≡ 0 = rw e refl in
            omega (
              arith,
              safe.cover.runs run h,
              b.before (records_with (is_loaded_as run)),
              b.after (records_with (is_loaded_as run)),
              sum_at (λ (r : Record). cond {A = ℕ} (is_loaded_as run r) 1 0) row.front row.entry row.back,
              sum_at (λ (r : Record). cond {A = ℕ} (is_loaded_as run r) 1 0) row.front changed row.back,
            )
