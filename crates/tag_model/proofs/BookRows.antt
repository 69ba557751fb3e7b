-- The changes of the module list that keep its records' ids and ranges keep all the laws: a sweep begins, the count of reads changes, a CPU enters or leaves.
use Rattle.std.proofs.Common.{◌≡◌, ℕ, ◌+◌, ◌-◌, ◌<◌, ◌≤◌, ◌==◌, ◌&&◌, ◌⊎◌, nat_lt, nat_le, List, [], ◌∷◌, ◌++◌, sum_by, count_by, refl, sym, ap, ◌∙◌, subst, inl, inr, arith, Bool, true, false, not, cond, eqb-true, eq-eqb, if◌then◌else◌}
use Rattle.std.specs.List.{list_all}
use Rattle.std.proofs.lemmas.Bool.{and_parts, and_from, false≢true, cases_Bool, cases_lt}
use Rattle.std.proofs.lemmas.List.Sums.{sum_by-append, sum_by-cons}
use Rattle.tag_model.specs.declared.shape.Shape.{Shape}
use Rattle.tag_model.specs.declared.state.Kind.TheVariants.{Bytes, Calls}
use Rattle.tag_model.specs.declared.state.ListPart.{ListPart}
use Rattle.tag_model.specs.declared.state.Part.{Part}
use Rattle.tag_model.specs.declared.state.Part.TheVariants.{Modules}
use Rattle.tag_model.specs.declared.state.Record.{Record}
use Rattle.tag_model.specs.declared.state.Run.{Run}
use Rattle.tag_model.specs.declared.state.Stop.{Stop}
use Rattle.tag_model.specs.declared.state.Sweep.{Sweep}
use Rattle.tag_model.specs.declared.state.Tag.{Tag}
use Rattle.tag_model.specs.Laws.{Safe, CoverLaw, IsCovered, is_loaded_as, same_run, same_note, contradicts, runs_of_cpu, rises_from, ids_of}
use Rattle.tag_model.specs.Shape.{IsChecked}
use Rattle.tag_model.specs.StepRules.{Sweeps, Enters, Leaves, ReordersRuns, Becomes, begins_pass, dead_ids, run_on}
use Rattle.tag_model.specs.WordState.{one_if, Every, word_of, word_from, counted, counted_of, in_range, records_with, runs_with, notes_with, users_of, next_id, record_fits, part_fits}
use Rattle.tag_model.proofs.Alike.{AlikeBook, book_after, cover_alike, of_users}
use Rattle.tag_model.proofs.Found.{fails_none, sum_at, count_at}
use Rattle.tag_model.proofs.Ids.{field_here}
use Rattle.tag_model.proofs.ListRows.{OneList, list_alone, one_before, one_after, the_one, sweep_ok, sweep_from, sweep_ok_after, pass_base}
use Rattle.tag_model.proofs.Parts.{becomes_same, every_after}
use Rattle.tag_model.proofs.Passes.{SweepOk, begins_pass_ok}
use Rattle.tag_model.proofs.Records.{SameEach, each_after, count_swap, all_swap, ids_swap, rises_dead, dead_are_dead, sweep_moves, moves_users}
use Rattle.tag_model.proofs.Swept.{ListLaws, list_laws}

-- ---- what the steps on the list part alone share

same_modules : (l m : ListPart) → SameEach (Modules l ∷ []) (Modules m ∷ [])
same_modules l m = record { cpus = λ n. refl; list = refl; pass = refl; places = λ n. refl; few_places = refl }

-- the laws, of a step that turns one list part into another
pub record ListStep (k : Shape) (l m : ListPart) (ps qs : List Part) : Type 0 where
  pub becomes : Becomes (Modules l ∷ []) (Modules m ∷ []) ps qs
  pub safe : Safe k ps
  pub before : OneList l ps
  pub after : OneList m qs
  pub laws : ListLaws k l
  pub sweep : SweepOk k l.sweep l.records ps

pub list_step : (k : Shape) (l m : ListPart) (ps qs : List Part) → Becomes (Modules l ∷ []) (Modules m ∷ []) ps qs → Safe k ps → ListStep k l m ps qs
list_step k l m ps qs b safe =
    let before = one_before (Modules l ∷ []) (Modules m ∷ []) ps qs l (list_alone l) b safe.each.list in
    let laws = list_laws k ps (the_one before) safe.fits safe.cover safe.sweep.fits in
    record { becomes = b; safe = safe; before = before; after = one_after (Modules l ∷ []) (Modules m ∷ []) ps qs l m (list_alone l) (list_alone m) b safe.each.list; laws = laws; sweep = sweep_ok k l ps before laws safe.sweep }

pub list_kept : (k : Shape) (l m : ListPart) (ps qs : List Part) → ListStep k l m ps qs → list_all (record_fits k) m.records ≡ true → rises_from 0 (ids_of m.records) ≡ true → CoverLaw k qs → SweepOk k m.sweep m.records ps → Safe k qs
list_kept k l m ps qs s fits rise cover ok = record {
  fits = every_after (part_fits k) v w ps qs b (omega (arith, fails_none (list_all (record_fits k) m.records) fits)) s.safe.fits;
  each = each_after k v w ps qs (same_modules l m) b s.safe.each;
  sums = record { sums = λ kind t. rw (becomes_same (word_of kind t) v w ps qs b refl, becomes_same (counted kind t) v w ps qs b refl) (s.safe.sums.sums kind t) };
  cover = cover;
  sweep = sweep_from k m qs s.after rise (sweep_ok_after k m.sweep m.records ps qs (λ kind t. becomes_same (counted kind t) v w ps qs b refl) (λ i kind t. becomes_same (word_from i kind t) v w ps qs b refl) ok);
}
  where
    v : List Part
    v = Modules l ∷ []

    w : List Part
    w = Modules m ∷ []

    b : Becomes v w ps qs
    b = s.becomes

-- ---- the sweep, its stops and the count of reads change

abbrev pub swept : ListPart → Sweep → List Stop → ℕ → ListPart
swept l s stops reads = record l { sweep = s; stops = stops; reads = reads }

sweep_kept : (k : Shape) (l : ListPart) (sweep : Sweep) (stops : List Stop) (reads : ℕ) (ps qs : List Part) → ListStep k l (swept l sweep stops reads) ps qs → SweepOk k sweep l.records ps → Safe k qs
sweep_kept k l sweep stops reads ps qs s ok =
    list_kept k l m ps qs s s.laws.records_fit s.laws.rise
    (cover_alike k ps qs (book_after (Modules l ∷ []) (Modules m ∷ []) ps qs alike s.becomes) s.safe.cover (λ tag h. s.safe.cover.named tag (omega (arith, becomes_same (counted_of Calls tag) (Modules l ∷ []) (Modules m ∷ []) ps qs s.becomes refl))))
    ok
  where
    m : ListPart
    m = swept l sweep stops reads

    alike : AlikeBook (Modules l ∷ []) (Modules m ∷ [])
    alike = record { cpus = λ n. refl; pass = refl; places = λ n. refl; few_places = refl; runs = λ test. refl; notes = λ test. refl; next = refl; one_run = λ id. refl; list = refl; records = λ test. refl; users = λ id. refl; high = λ next. refl }

-- a sweep of all dead records begins
pub safe-sweeps : (k : Shape) (old new : ListPart) (ps qs : List Part) → IsChecked k → Sweeps old new → Becomes (Modules old ∷ []) (Modules new ∷ []) ps qs → Safe k ps → Safe k qs
safe-sweeps k old new ps qs checked row steps safe =
    sweep_kept k old begun [] old.reads ps qs s
    (begins_pass_ok k Bytes (dead_ids old.records) old.records ps (pass_base k old ps checked s.laws safe) (rises_dead 0 old.records s.laws.rise) (dead_are_dead old.records) (λ e. absurd (false≢true e)))
  where
    begun : Sweep
    begun = begins_pass Bytes (dead_ids old.records) old.records

    s : ListStep k old (swept old begun [] old.reads) ps qs
    s = list_step k old (swept old begun [] old.reads) ps qs (subst (λ y. Becomes (Modules old ∷ []) (Modules y ∷ []) ps qs) row.after steps) safe

-- the laws don't read the count of reads
pub safe-reads : (k : Shape) (l : ListPart) (reads : ℕ) (ps qs : List Part) → Becomes (Modules l ∷ []) (Modules (record l { reads = reads }) ∷ []) ps qs → Safe k ps → Safe k qs
safe-reads k l reads ps qs b safe =
    let s = list_step k l (record l { reads = reads }) ps qs b safe in
    sweep_kept k l l.sweep l.stops reads ps qs s s.sweep

-- ---- the runs on their way change their order

pub safe-reorders_runs : (k : Shape) (old new : ListPart) (ps qs : List Part) → ReordersRuns old new → Becomes (Modules old ∷ []) (Modules new ∷ []) ps qs → Safe k ps → Safe k qs
safe-reorders_runs k old new ps qs row steps safe =
    list_kept k old m ps qs s s.laws.records_fit s.laws.rise
    (cover_alike k ps qs (book_after (Modules old ∷ []) (Modules m ∷ []) ps qs alike s.becomes) safe.cover (λ tag h. safe.cover.named tag (omega (arith, becomes_same (counted_of Calls tag) (Modules old ∷ []) (Modules m ∷ []) ps qs s.becomes refl))))
    s.sweep
  where
    m : ListPart
    m = record old { away = new.away }

    s : ListStep k old m ps qs
    s = list_step k old m ps qs (subst (λ y. Becomes (Modules old ∷ []) (Modules y ∷ []) ps qs) row.after steps) safe

    alike : AlikeBook (Modules old ∷ []) (Modules m ∷ [])
    alike = record { cpus = λ n. refl; pass = refl; places = λ n. refl; few_places = refl; runs = λ test. omega (arith, row.same test); notes = λ test. refl; next = refl; one_run = λ id. refl; list = refl; records = λ test. refl; users = λ id. refl; high = λ next. refl }

-- ---- one record changes

-- the step on the list whose records are front, entry and back
with_records : (l : ListPart) (records : List Record) → l.records ≡ records → l ≡ record l { records = records }
with_records l records e = λ i. record l { records = e i }

abbrev pub entered : ListPart → List Record → Record → List Record → List Run → ListPart
entered l front entry back away = record l { records = front ++ entry ∷ back; away = away }

covered_swap : (k : Shape) (l m : ListPart) (ps qs : List Part) → Becomes (Modules l ∷ []) (Modules m ∷ []) ps qs → ((test : Record → Bool) → ((r : Record) (users : ℕ) → test (record r { users = users }) ≡ test r) → count_by test m.records ≡ count_by test l.records) → (tag : Tag) → IsCovered k ps tag → IsCovered k qs tag
covered_swap k l m ps qs b same tag (inl h) = inl h
covered_swap k l m ps qs b same tag (inr h) =
    inr (omega (arith, becomes_same (records_with (λ r. (r.id == tag.module) && in_range r.start r.length tag.number)) (Modules l ∷ []) (Modules m ∷ []) ps qs b (omega (arith, same (λ r. (r.id == tag.module) && in_range r.start r.length tag.number) (λ r users. refl)))))

-- the users of a record and the runs on their way change alike
pub record UsersMove (entry : Record) (users : ℕ) (was away : List Run) : Type 0 where
  pub balance : (id : ℕ) → count_by (λ (r : Run). r.id == id) away + (if entry.id == id then entry.users else 0) ≡ count_by (λ (r : Run). r.id == id) was + (if entry.id == id then users else 0)
  pub of_entry : (run : Run) → 0 < count_by (same_run run) away → (0 < count_by (same_run run) was) ⊎ (is_loaded_as run entry ≡ true)

users_kept : (k : Shape) (l : ListPart) (front : List Record) (entry : Record) (back : List Record) (users : ℕ) (was away : List Run) (ps qs : List Part)
    → Becomes (Modules (entered l front entry back was) ∷ []) (Modules (entered l front (record entry { users = users }) back away) ∷ []) ps qs → UsersMove entry users was away → Safe k ps → Safe k qs
users_kept k l front entry back users was away ps qs b moves safe =
    list_kept k o n ps qs s (all_swap (record_fits k) front entry changed back refl ∙ s.laws.records_fit) (subst (λ ids. rises_from 0 ids ≡ true) (sym (ids_swap front entry changed back refl)) s.laws.rise) cover
    (sweep_moves k l.sweep o.records n.records ps (λ left rises dead. moves_users left front entry back users) s.sweep)
  where
    changed : Record
    changed = record entry { users = users }

    o : ListPart
    o = entered l front entry back was

    n : ListPart
    n = entered l front changed back away

    s : ListStep k o n ps qs
    s = list_step k o n ps qs b safe

    same : (test : Record → Bool) → ((r : Record) (u : ℕ) → test (record r { users = u }) ≡ test r) → count_by test n.records ≡ count_by test o.records
    same test h = count_swap test front entry changed back (h entry users)

    records : (test : Record → Bool) → ((r : Record) (u : ℕ) → test (record r { users = u }) ≡ test r) → sum_by (records_with test) qs ≡ sum_by (records_with test) ps
    records test h = becomes_same (records_with test) (Modules o ∷ []) (Modules n ∷ []) ps qs b (omega (arith, same test h))

    cover : CoverLaw k qs
    cover = record {
      ids_below_next =
          subst (λ next. Every (λ p. (records_with (λ r. not (nat_lt r.id next)) p == 0)) qs) (sym (becomes_same next_id (Modules o ∷ []) (Modules n ∷ []) ps qs b refl))
          (omega (
            arith,
            safe.cover.ids_below_next,
            becomes_same (λ p. one_if (not (records_with (λ r. not (nat_lt r.id (sum_by next_id ps))) p == 0))) (Modules o ∷ []) (Modules n ∷ []) ps qs b
                (ap (λ x. 0 + one_if (not (x == 0))) (sym (same (λ r. not (nat_lt r.id (sum_by next_id ps))) (λ r u. refl)))),
          ));
      ids_apart = λ id. omega (arith, records (λ r. r.id == id) (λ r u. refl), safe.cover.ids_apart id);
      ranges_apart = λ t. omega (arith, records (λ r. in_range r.start r.length t) (λ r u. refl), safe.cover.ranges_apart t);
      named = λ tag h. covered_swap k o n ps qs b same tag (safe.cover.named tag (omega (arith, becomes_same (counted_of Calls tag) (Modules o ∷ []) (Modules n ∷ []) ps qs b refl)));
      runs = λ run h. runs run (cases_lt 0 (count_by (same_run run) away)) h;
      one_run = λ id. omega (arith, safe.cover.one_run id, becomes_same (λ p. one_if (not (nat_le (runs_of_cpu id p) 1))) (Modules o ∷ []) (Modules n ∷ []) ps qs b refl);
      users = λ id. omega (
        arith,
        safe.cover.users id,
        b.before (runs_with (λ r. r.id == id)),
        b.after (runs_with (λ r. r.id == id)),
        b.before (users_of id),
        b.after (users_of id),
        moves.balance id,
        sum_at (λ (r : Record). if r.id == id then r.users else 0) front entry back,
        sum_at (λ (r : Record). if r.id == id then r.users else 0) front changed back,
      );
      notes_known = λ note h. omega (arith, becomes_same next_id (Modules o ∷ []) (Modules n ∷ []) ps qs b refl, safe.cover.notes_known note (omega (arith, becomes_same (notes_with (same_note note)) (Modules o ∷ []) (Modules n ∷ []) ps qs b refl)));
      notes_agree = λ note h. omega (arith, records (contradicts note) (λ r u. refl), safe.cover.notes_agree note (omega (arith, becomes_same (notes_with (same_note note)) (Modules o ∷ []) (Modules n ∷ []) ps qs b refl)));
    }
      where
        of_entry : (run : Run) → (0 < count_by (same_run run) was) ⊎ (is_loaded_as run entry ≡ true) → 0 < sum_by (records_with (is_loaded_as run)) ps
        of_entry run (inl h) = safe.cover.runs run (omega (arith, b.before (runs_with (same_run run))))
        of_entry run (inr e) = omega (arith, b.before (records_with (is_loaded_as run)), count_at (is_loaded_as run) front entry back e)

        runs : (run : Run) → (0 < count_by (same_run run) away) ⊎ (count_by (same_run run) away ≤ 0) → 0 < sum_by (runs_with (same_run run)) qs → 0 < sum_by (records_with (is_loaded_as run)) qs
        runs run (inl there) h = omega (arith, records (is_loaded_as run) (λ r u. refl), of_entry run (moves.of_entry run there))
        runs run (inr none) h = omega (arith, records (is_loaded_as run) (λ r u. refl), safe.cover.runs run (omega (arith, b.before (runs_with (same_run run)), b.after (runs_with (same_run run)))))

-- ---- a CPU enters a module, or leaves it

-- a run on a loaded record is that record's
pub run_on_entry : (run : Run) (entry : Record) → same_run run (run_on entry) ≡ true → entry.dead ≡ false → is_loaded_as run entry ≡ true
run_on_entry run entry e loaded =
    let d = and_parts ((run.id == entry.id) && (run.section == entry.section) && (run.start == entry.start)) (run.length == entry.length) e in
    let c = and_parts ((run.id == entry.id) && (run.section == entry.section)) (run.start == entry.start) d.0 in
    let b = and_parts (run.id == entry.id) (run.section == entry.section) c.0 in
    and_from _ _ (and_from _ _ (and_from _ _ (and_from _ _ (eq-eqb entry.id run.id (sym (eqb-true run.id entry.id b.0))) (eq-eqb entry.section run.section (sym (eqb-true run.section entry.section b.1))))
    (eq-eqb entry.start run.start (sym (eqb-true run.start entry.start c.1)))) (eq-eqb entry.length run.length (sym (eqb-true run.length entry.length d.1)))) (ap not loaded)

enters_moves : (entry : Record) (was : List Run) → entry.dead ≡ false → UsersMove entry (entry.users + 1) was (run_on entry ∷ was)
enters_moves entry was loaded = record {
  balance = λ id. omega (arith, sum_by-cons (λ (r : Run). cond {A = ℕ} (r.id == id) 1 0) (run_on entry) was, one_more (entry.id == id) entry.users);
  of_entry = λ run h. first run (cases_Bool (same_run run (run_on entry))) h;
}
  where
    one_more : (b : Bool) (u : ℕ) → cond {A = ℕ} b (u + 1) 0 ≡ cond b 1 0 + cond b u 0
    one_more true u = omega arith
    one_more false u = refl

    first : (run : Run) → (same_run run (run_on entry) ≡ true) ⊎ (same_run run (run_on entry) ≡ false) → 0 < count_by (same_run run) (run_on entry ∷ was) → (0 < count_by (same_run run) was) ⊎ (is_loaded_as run entry ≡ true)
    first run (inl e) h = inr (run_on_entry run entry e loaded)
    first run (inr e) h =
        let none : cond {A = ℕ} (same_run run (run_on entry)) 1 0 ≡ 0 = rw e refl in
        inl (omega (arith, sum_by-cons (λ (r : Run). cond {A = ℕ} (same_run run r) 1 0) (run_on entry) was))

leaves_moves : (entry : Record) (ahead behind : List Run) → 0 < entry.users → UsersMove entry (entry.users - 1) (ahead ++ run_on entry ∷ behind) (ahead ++ behind)
leaves_moves entry ahead behind some = record {
  balance = λ id. omega (arith, split (λ (r : Run). r.id == id), one_less (entry.id == id));
  of_entry = λ run h. inl (omega (arith, split (same_run run)));
}
  where
    split : (test : Run → Bool) → count_by test (ahead ++ run_on entry ∷ behind) ≡ cond {A = ℕ} (test (run_on entry)) 1 0 + count_by test (ahead ++ behind)
    split test = omega (arith, sum_at (λ (r : Run). cond {A = ℕ} (test r) 1 0) ahead (run_on entry) behind, sum_by-append (λ (r : Run). cond {A = ℕ} (test r) 1 0) ahead behind)

    one_less : (b : Bool) → cond {A = ℕ} b entry.users 0 ≡ cond b 1 0 + cond b (entry.users - 1) 0
    one_less true = omega arith
    one_less false = refl

pub safe-enters : (k : Shape) (old new : ListPart) (ps qs : List Part) → IsChecked k → Enters old new → Becomes (Modules old ∷ []) (Modules new ∷ []) ps qs → Safe k ps → Safe k qs
safe-enters k old new ps qs checked row steps safe =
    users_kept k old row.front row.entry row.back (row.entry.users + 1) old.away (run_on row.entry ∷ old.away) ps qs
    (subst (λ y. Becomes (Modules y ∷ []) (Modules (entered old row.front (record row.entry { users = row.entry.users + 1 }) row.back (run_on row.entry ∷ old.away)) ∷ []) ps qs) (with_records old (row.front ++ row.entry ∷ row.back) row.there)
    (subst (λ y. Becomes (Modules old ∷ []) (Modules y ∷ []) ps qs) row.after steps))
    (enters_moves row.entry old.away row.loaded) safe

pub safe-leaves : (k : Shape) (old new : ListPart) (ps qs : List Part) → IsChecked k → Leaves old new → Becomes (Modules old ∷ []) (Modules new ∷ []) ps qs → Safe k ps → Safe k qs
safe-leaves k old new ps qs checked row steps safe =
    users_kept k old row.front row.entry row.back (row.entry.users - 1) (row.ahead ++ run_on row.entry ∷ row.behind) (row.ahead ++ row.behind) ps qs b (leaves_moves row.entry row.ahead row.behind some) safe
  where
    o : ListPart
    o = entered old row.front row.entry row.back (row.ahead ++ run_on row.entry ∷ row.behind)

    n : ListPart
    n = entered old row.front (record row.entry { users = row.entry.users - 1 }) row.back (row.ahead ++ row.behind)

    b : Becomes (Modules o ∷ []) (Modules n ∷ []) ps qs
    b = subst (λ y. Becomes (Modules y ∷ []) (Modules n ∷ []) ps qs) (λ i. record old { records = row.there i; away = row.running i }) (subst (λ y. Becomes (Modules old ∷ []) (Modules y ∷ []) ps qs) row.after steps)

    s : ListStep k o n ps qs
    s = list_step k o n ps qs b safe

    -- the run that ends is one of the record's users
    some : 0 < row.entry.users
    some =
        let here : cond {A = ℕ} (row.entry.id == row.entry.id) 1 0 ≡ 1 = rw (eq-eqb row.entry.id row.entry.id refl) refl in
        omega (
          arith,
          safe.cover.users row.entry.id,
          b.before (runs_with (λ r. r.id == row.entry.id)),
          sum_at (λ (r : Run). cond {A = ℕ} (r.id == row.entry.id) 1 0) row.ahead (run_on row.entry) row.behind,
          s.before.only (users_of row.entry.id) (of_users row.entry.id),
          field_here (λ r. r.users) row.front row.entry row.back row.entry.id refl (s.laws.apart row.entry.id),
        )
