-- The base moves keep all the laws: a run goes from the list to a CPU or back, a CPU notes a record.
use Rattle.std.proofs.Common.{◌≡◌, ℕ, ◌+◌, ◌<◌, ◌≤◌, ◌==◌, ◌&&◌, ◌||◌, ◌⊎◌, nat_lt, nat_le, List, [], ◌∷◌, ◌++◌, sum_by, count_by, refl, sym, ap, ◌∙◌, subst, inl, inr, arith, Bool, true, false, not, cond, eqb-true, eq-eqb, ne_eqb, le-leb, le-ltb, Option, Some, None}
use Rattle.std.specs.List.{list_any}
use Rattle.std.proofs.lemmas.Bool.{and_parts, and_from, and_right, or_from, or_cases, or_left, or_right, not-true, cases_Bool, cases_eq, cases_lt}
use Rattle.std.proofs.lemmas.List.Sums.{sum_by-cons, sum_by-append}
use Rattle.std.proofs.lemmas.List.Folds.{list_any-append}
use Rattle.tag_model.specs.declared.shape.Shape.{Shape}
use Rattle.tag_model.specs.declared.state.CpuPart.{CpuPart}
use Rattle.tag_model.specs.declared.state.Hand.{Hand}
use Rattle.tag_model.specs.declared.state.Kind.TheVariants.{Calls}
use Rattle.tag_model.specs.declared.state.ListPart.{ListPart}
use Rattle.tag_model.specs.declared.state.Note.{Note}
use Rattle.tag_model.specs.declared.state.Part.{Part}
use Rattle.tag_model.specs.declared.state.Part.TheVariants.{Cpu, Modules}
use Rattle.tag_model.specs.declared.state.Record.{Record}
use Rattle.tag_model.specs.declared.state.Run.{Run}
use Rattle.tag_model.specs.declared.state.Tag.{Tag}
use Rattle.tag_model.specs.Laws.{Safe, CoverLaw, IsCovered, is_loaded_as, same_run, same_note, note_of, contradicts, runs_of_cpu}
use Rattle.tag_model.specs.StepRules.{GivesRun, TakesRun, NotesRecord, Becomes}
use Rattle.tag_model.specs.WordState.{one_if, Every, word_of, word_from, counted, counted_of, in_range, records_with, runs_with, notes_with, users_of, next_id, part_fits, hand_may_open}
use Rattle.tag_model.proofs.Alike.{of_records}
use Rattle.tag_model.proofs.CpuFits.{CpuFits, cpu_fits_means, cpu_fits_from}
use Rattle.tag_model.proofs.Found.{fails_none, sum_at, count_more}
use Rattle.tag_model.proofs.ListRows.{OneList, list_with_cpu, one_before, one_after, the_one, sweep_ok, sweep_from, sweep_ok_after}
use Rattle.tag_model.proofs.LoadRow.{none_high}
use Rattle.tag_model.proofs.Parts.{becomes_same, every_after, every_before}
use Rattle.tag_model.proofs.PlaceRow.{settled_may_open}
use Rattle.tag_model.proofs.Records.{each_after}
use Rattle.tag_model.proofs.Swept.{holds_first, part_passes, ListLaws, list_laws}
use Rattle.tag_model.proofs.Told.{one_run_each}

-- ---- what the base moves share

abbrev pub moved_cpu : CpuPart → List Run → List Note → CpuPart
moved_cpu c runs notes = record c { runs = runs; notes = notes }

abbrev pub moved_list : ListPart → List Run → ListPart
moved_list l away = record l { away = away }

-- runs only change hands, and a note that is new tells a record
pub record Moves (k : Shape) (c : CpuPart) (runs : List Run) (notes : List Note) (l : ListPart) (away : List Run) (next : ℕ) : Type 0 where
  pub may_open : hand_may_open c.hand runs ≡ true
  pub balance : (test : Run → Bool) → count_by test c.runs + count_by test l.away ≡ count_by test runs + count_by test away
  pub one_run : (id : ℕ) → count_by (λ (r : Run). r.id == id) runs ≤ 1
  pub told : (n : Note) → 0 < count_by (same_note n) notes → (0 < count_by (same_note n) c.notes) ⊎ ((n.id < next) × (count_by (contradicts n) l.records ≡ 0))

pub base_kept : (k : Shape) (c : CpuPart) (runs : List Run) (notes : List Note) (l : ListPart) (away : List Run) (ps qs : List Part)
    → Becomes (Cpu c ∷ Modules l ∷ []) (Cpu (moved_cpu c runs notes) ∷ Modules (moved_list l away) ∷ []) ps qs → Moves k c runs notes l away (sum_by next_id ps) → Safe k ps → Safe k qs
base_kept k c runs notes l away ps qs b moves safe = record {
  fits = every_after (part_fits k) v w ps qs b (omega (arith, every_before (part_fits k) v w ps qs b safe.fits, fails_none (part_fits k (Cpu d)) (cpu_fits_from k d fit))) safe.fits;
  each = each_after k v w ps qs (record { cpus = λ n. refl; list = refl; pass = refl; places = λ n. refl; few_places = refl }) b safe.each;
  sums = record { sums = λ kind t. rw (same (word_of kind t) refl, same (counted kind t) refl) (safe.sums.sums kind t) };
  cover = cover;
  sweep = sweep_from k m qs (one_after v w ps qs l m (list_with_cpu c l) (list_with_cpu d m) b safe.each.list) laws.rise
      (sweep_ok_after k l.sweep l.records ps qs (λ kind t. same (counted kind t) refl) (λ i kind t. same (word_from i kind t) refl) (sweep_ok k l ps one laws safe.sweep));
}
  where
    d : CpuPart
    d = moved_cpu c runs notes

    m : ListPart
    m = moved_list l away

    v : List Part
    v = Cpu c ∷ Modules l ∷ []

    w : List Part
    w = Cpu d ∷ Modules m ∷ []

    same : (f : Part → ℕ) → sum_by f v ≡ sum_by f w → sum_by f qs ≡ sum_by f ps
    same f e = becomes_same f v w ps qs b e

    one : OneList l ps
    one = one_before v w ps qs l (list_with_cpu c l) b safe.each.list

    laws : ListLaws k l
    laws = list_laws k ps (the_one one) safe.fits safe.cover safe.sweep.fits

    was : CpuFits k c
    was = cpu_fits_means k c (part_passes (part_fits k) ps (Cpu c) (holds_first (Cpu c) (Modules l ∷ []) w ps qs b) safe.fits)

    fit : CpuFits k d
    fit = record { number = was.number; words = was.words; hand = was.hand; may_open = moves.may_open }

    run_sum : (test : Run → Bool) → sum_by (runs_with test) qs ≡ sum_by (runs_with test) ps
    run_sum test = same (runs_with test) (omega (arith, moves.balance test))

    cover : CoverLaw k qs
    cover = record {
      ids_below_next =
          subst (λ next. Every (λ p. (records_with (λ r. not (nat_lt r.id next)) p == 0)) qs) (sym (same next_id refl))
          (omega (arith, safe.cover.ids_below_next, same (λ p. one_if (not (records_with (λ r. not (nat_lt r.id (sum_by next_id ps))) p == 0))) refl));
      ids_apart = λ id. omega (arith, same (records_with (λ r. r.id == id)) refl, safe.cover.ids_apart id);
      ranges_apart = λ t. omega (arith, same (records_with (λ r. in_range r.start r.length t)) refl, safe.cover.ranges_apart t);
      named = λ tag h. covered tag (safe.cover.named tag (omega (arith, same (counted_of Calls tag) refl)));
      runs = λ run h. omega (arith, same (records_with (is_loaded_as run)) refl, safe.cover.runs run (omega (arith, run_sum (same_run run))));
      one_run = λ id.
          let here = fails_none (nat_le (count_by (λ (r : Run). r.id == id) runs) 1) (le-leb (count_by (λ (r : Run). r.id == id) runs) 1 (moves.one_run id)) in
          omega (arith, safe.cover.one_run id, b.before (λ p. one_if (not (nat_le (runs_of_cpu id p) 1))), b.after (λ p. one_if (not (nat_le (runs_of_cpu id p) 1))));
      users = λ id. omega (arith, safe.cover.users id, run_sum (λ r. r.id == id), same (users_of id) refl);
      notes_known = λ n h. known n (cases_lt 0 (count_by (same_note n) notes)) h;
      notes_agree = λ n h. agree n (cases_lt 0 (count_by (same_note n) notes)) h;
    }
      where
        covered : (tag : Tag) → IsCovered k ps tag → IsCovered k qs tag
        covered tag (inl h) = inl h
        covered tag (inr h) = inr (omega (arith, same (records_with (λ r. (r.id == tag.module) && in_range r.start r.length tag.number)) refl))

        noted : (n : Note) → count_by (same_note n) notes ≤ 0 → 0 < sum_by (notes_with (same_note n)) qs → 0 < sum_by (notes_with (same_note n)) ps
        noted n none h = omega (arith, b.before (notes_with (same_note n)), b.after (notes_with (same_note n)))

        noted_here : (n : Note) → 0 < count_by (same_note n) c.notes → 0 < sum_by (notes_with (same_note n)) ps
        noted_here n some = omega (arith, b.before (notes_with (same_note n)))

        known : (n : Note) → (0 < count_by (same_note n) notes) ⊎ (count_by (same_note n) notes ≤ 0) → 0 < sum_by (notes_with (same_note n)) qs → n.id < sum_by next_id qs
        known n (inr none) h = omega (arith, same next_id refl, safe.cover.notes_known n (noted n none h))
        known n (inl some) h = elim (moves.told n some) [ inl old ↦ omega (arith, same next_id refl, safe.cover.notes_known n (noted_here n old)) | inr new ↦ omega (arith, same next_id refl, new.0) ]

        agree : (n : Note) → (0 < count_by (same_note n) notes) ⊎ (count_by (same_note n) notes ≤ 0) → 0 < sum_by (notes_with (same_note n)) qs → sum_by (records_with (contradicts n)) qs ≡ 0
        agree n (inr none) h = omega (arith, same (records_with (contradicts n)) refl, safe.cover.notes_agree n (noted n none h))
        agree n (inl some) h = elim (moves.told n some) [
          | inl old ↦ omega (arith, same (records_with (contradicts n)) refl, safe.cover.notes_agree n (noted_here n old))
          | inr new ↦ omega (arith, same (records_with (contradicts n)) refl, one.only (records_with (contradicts n)) (of_records _), new.1)
        ]

may_open_before : (k : Shape) (c : CpuPart) (l : ListPart) (w ps qs : List Part) → Becomes (Cpu c ∷ Modules l ∷ []) w ps qs → Safe k ps → hand_may_open c.hand c.runs ≡ true
may_open_before k c l w ps qs b safe = (cpu_fits_means k c (part_passes (part_fits k) ps (Cpu c) (holds_first (Cpu c) (Modules l ∷ []) w ps qs b) safe.fits)).may_open

-- ---- a run goes to a CPU

-- what one of the elements passes, one of them passes where another joins
any_joins : {X : Type 0} (p : X → Bool) (front : List X) (x : X) (back : List X) → list_any p (front ++ back) ≡ true → list_any p (front ++ x ∷ back) ≡ true
any_joins p front x back e =
    list_any-append p front (x ∷ back)
    ∙ elim (or_cases (list_any p front) (list_any p back) (sym (list_any-append p front back) ∙ e)) [ inl here ↦ or_left _ _ here | inr there ↦ or_right _ _ (or_right _ _ there) ]

may_open_more : (hand : Option Hand) (front : List Run) (run : Run) (back : List Run) → hand_may_open hand (front ++ back) ≡ true → hand_may_open hand (front ++ run ∷ back) ≡ true
may_open_more None front run back e = refl
may_open_more (Some h) front run back e =
    elim (or_cases (not h.opening || (h.tag.module == 0)) (list_any (λ (r : Run). (r.id == h.tag.module) && in_range r.start r.length h.tag.number) (front ++ back)) e)
    [ inl settled ↦ or_left _ _ settled | inr ran ↦ or_right _ _ (any_joins (λ (r : Run). (r.id == h.tag.module) && in_range r.start r.length h.tag.number) front run back ran) ]

pub safe-gives_run : (k : Shape) (old new : CpuPart) (from to : ListPart) (ps qs : List Part) → GivesRun old new from to → Becomes (Cpu old ∷ Modules from ∷ []) (Cpu new ∷ Modules to ∷ []) ps qs → Safe k ps → Safe k qs
safe-gives_run k old new from to ps qs row steps safe =
    base_kept k old (row.front ++ row.run ∷ row.back) old.notes from (row.ahead ++ row.behind) ps qs b
    (record {
      may_open = may_open_more old.hand row.front row.run row.back (subst (λ xs. hand_may_open old.hand xs ≡ true) row.had (may_open_before k old from _ ps qs steps safe));
      balance = λ test. omega (arith, joined test, left_away test);
      one_run = λ id. one id (cases_eq row.run.id id);
      told = λ n h. inl h;
    }) safe
  where
    b : Becomes (Cpu old ∷ Modules from ∷ []) (Cpu (moved_cpu old (row.front ++ row.run ∷ row.back) old.notes) ∷ Modules (moved_list from (row.ahead ++ row.behind)) ∷ []) ps qs
    b = subst (λ y. Becomes (Cpu old ∷ Modules from ∷ []) (Cpu y ∷ Modules (moved_list from (row.ahead ++ row.behind)) ∷ []) ps qs) row.cpu (subst (λ y. Becomes (Cpu old ∷ Modules from ∷ []) (Cpu new ∷ Modules y ∷ []) ps qs) row.list steps)

    joined : (test : Run → Bool) → count_by test (row.front ++ row.run ∷ row.back) ≡ cond {A = ℕ} (test row.run) 1 0 + count_by test old.runs
    joined test =
        let had : count_by test old.runs ≡ count_by test (row.front ++ row.back) = ap (λ xs. count_by test xs) row.had in
        omega (arith, had, sum_at (λ (r : Run). cond {A = ℕ} (test r) 1 0) row.front row.run row.back, sum_by-append (λ (r : Run). cond {A = ℕ} (test r) 1 0) row.front row.back)

    left_away : (test : Run → Bool) → count_by test from.away ≡ cond {A = ℕ} (test row.run) 1 0 + count_by test (row.ahead ++ row.behind)
    left_away test =
        let was : count_by test from.away ≡ count_by test (row.ahead ++ row.run ∷ row.behind) = ap (λ xs. count_by test xs) row.away in
        omega (arith, was, sum_at (λ (r : Run). cond {A = ℕ} (test r) 1 0) row.ahead row.run row.behind, sum_by-append (λ (r : Run). cond {A = ℕ} (test r) 1 0) row.ahead row.behind)

    one : (id : ℕ) → (row.run.id ≡ id) ⊎ (row.run.id ≡ id → ⊥) → count_by (λ (r : Run). r.id == id) (row.front ++ row.run ∷ row.back) ≤ 1
    one id (inl e) =
        let none = subst (λ x. count_by (λ (r : Run). r.id == x) old.runs ≡ 0) e row.first in
        let here : cond {A = ℕ} (row.run.id == id) 1 0 ≡ 1 = rw (eq-eqb row.run.id id e) refl in
        omega (arith, joined (λ r. r.id == id))
    one id (inr ne) =
        let here : cond {A = ℕ} (row.run.id == id) 1 0 ≡ 0 = rw (ne_eqb row.run.id id ne) refl in
        omega (arith, joined (λ r. r.id == id), one_run_each k old (Modules from ∷ []) _ ps qs steps safe id)

-- ---- a run leaves a CPU

pub safe-takes_run : (k : Shape) (old new : CpuPart) (from to : ListPart) (ps qs : List Part) → TakesRun old new from to → Becomes (Cpu old ∷ Modules from ∷ []) (Cpu new ∷ Modules to ∷ []) ps qs → Safe k ps → Safe k qs
safe-takes_run k old new from to ps qs row steps safe =
    base_kept k old (row.front ++ row.back) old.notes from (row.run ∷ from.away) ps qs b
    (record {
      may_open = settled_may_open old.hand (row.front ++ row.back) row.settled;
      balance = λ test. omega (arith, split test, sum_by-append (λ (r : Run). cond {A = ℕ} (test r) 1 0) row.front row.back, sum_by-cons (λ (r : Run). cond {A = ℕ} (test r) 1 0) row.run from.away);
      one_run = λ id. omega (arith, split (λ r. r.id == id), sum_by-append (λ (r : Run). cond {A = ℕ} (r.id == id) 1 0) row.front row.back, one_run_each k old (Modules from ∷ []) _ ps qs steps safe id);
      told = λ n h. inl h;
    }) safe
  where
    b : Becomes (Cpu old ∷ Modules from ∷ []) (Cpu (moved_cpu old (row.front ++ row.back) old.notes) ∷ Modules (moved_list from (row.run ∷ from.away)) ∷ []) ps qs
    b = subst (λ y. Becomes (Cpu old ∷ Modules from ∷ []) (Cpu y ∷ Modules (moved_list from (row.run ∷ from.away)) ∷ []) ps qs) row.cpu (subst (λ y. Becomes (Cpu old ∷ Modules from ∷ []) (Cpu new ∷ Modules y ∷ []) ps qs) row.list steps)

    split : (test : Run → Bool) → count_by test old.runs ≡ count_by test row.front + (cond {A = ℕ} (test row.run) 1 0 + count_by test row.back)
    split test = ap (λ xs. count_by test xs) row.has ∙ sum_at (λ (r : Run). cond {A = ℕ} (test r) 1 0) row.front row.run row.back

-- ---- a CPU notes a record

-- a note that is the one of a record doesn't contradict it
pub note_tells : (n : Note) (r : Record) → same_note n (note_of r) ≡ true → (n.id ≡ r.id) × (contradicts n r ≡ false)
note_tells n r e =
    let f = and_parts ((n.id == r.id) && (n.section == r.section) && (n.start == r.start) && (n.length == r.length) && not (not (n.seen_dead) && r.dead)) (not (n.seen_dead && not r.dead)) e in
    let d = (and_parts ((n.id == r.id) && (n.section == r.section) && (n.start == r.start) && (n.length == r.length)) (not (not (n.seen_dead) && r.dead)) f.0).0 in
    let c = and_parts ((n.id == r.id) && (n.section == r.section) && (n.start == r.start)) (n.length == r.length) d in
    let b = and_parts ((n.id == r.id) && (n.section == r.section)) (n.start == r.start) c.0 in
    let a = and_parts (n.id == r.id) (n.section == r.section) b.0 in
    let same : ((r.section == n.section) && (r.start == n.start) && (r.length == n.length)) ≡ true =
    and_from _ _ (and_from _ _ (eq-eqb r.section n.section (sym (eqb-true n.section r.section a.1))) (eq-eqb r.start n.start (sym (eqb-true n.start r.start b.1)))) (eq-eqb r.length n.length (sym (eqb-true n.length r.length c.1))) in
    let dead : (n.seen_dead && not r.dead) ≡ false = not-true (n.seen_dead && not r.dead) f.1 in
    (eqb-true n.id r.id a.0, and_right (r.id == n.id) (not ((r.section == n.section) && (r.start == n.start) && (r.length == n.length)) || (n.seen_dead && not r.dead)) (or_from (not ((r.section == n.section) && (r.start == n.start) && (r.length == n.length))) (n.seen_dead && not r.dead) (ap not same) dead))

pub safe-notes_record : (k : Shape) (old new : CpuPart) (list : ListPart) (ps qs : List Part) → NotesRecord old new list → Becomes (Cpu old ∷ Modules list ∷ []) (Cpu new ∷ Modules list ∷ []) ps qs → Safe k ps → Safe k qs
safe-notes_record k old new list ps qs row steps safe =
    base_kept k old old.runs (note_of row.entry ∷ old.notes) list list.away ps qs b
    (record {
      may_open = may_open_before k old list _ ps qs steps safe;
      balance = λ test. refl;
      one_run = one_run_each k old (Modules list ∷ []) _ ps qs steps safe;
      told = λ n h. told n h (cases_Bool (same_note n (note_of row.entry)));
    }) safe
  where
    b : Becomes (Cpu old ∷ Modules list ∷ []) (Cpu (moved_cpu old old.runs (note_of row.entry ∷ old.notes)) ∷ Modules (moved_list list list.away) ∷ []) ps qs
    b = subst (λ y. Becomes (Cpu old ∷ Modules list ∷ []) (Cpu y ∷ Modules list ∷ []) ps qs) row.after steps

    one : OneList list ps
    one = one_before (Cpu old ∷ Modules list ∷ []) (Cpu (moved_cpu old old.runs (note_of row.entry ∷ old.notes)) ∷ Modules (moved_list list list.away) ∷ []) ps qs list (list_with_cpu old list) b safe.each.list

    split : (test : Record → Bool) → count_by test list.records ≡ count_by test row.front + (cond {A = ℕ} (test row.entry) 1 0 + count_by test row.back)
    split test = ap (λ xs. count_by test xs) row.there ∙ sum_at (λ (r : Record). cond {A = ℕ} (test r) 1 0) row.front row.entry row.back

    below : row.entry.id < sum_by next_id ps
    below =
        let none = none_high (sum_by next_id ps) list ps one safe.cover.ids_below_next in
        elim (cases_lt row.entry.id (sum_by next_id ps)) [
          | inl h ↦ h
          | inr h ↦ (let high : cond {A = ℕ} (not (nat_lt row.entry.id (sum_by next_id ps))) 1 0 ≡ 1 = rw (le-ltb row.entry.id (sum_by next_id ps) h) refl in absurd (omega (arith, split (λ r. not (nat_lt r.id (sum_by next_id ps))))))
        ]

    told : (n : Note) → 0 < count_by (same_note n) (note_of row.entry ∷ old.notes) → (same_note n (note_of row.entry) ≡ true) ⊎ (same_note n (note_of row.entry) ≡ false)
        → (0 < count_by (same_note n) old.notes) ⊎ ((n.id < sum_by next_id ps) × (count_by (contradicts n) list.records ≡ 0))
    told n h (inr e) =
        let none : cond {A = ℕ} (same_note n (note_of row.entry)) 1 0 ≡ 0 = rw e refl in
        inl (omega (arith, sum_by-cons (λ (x : Note). cond {A = ℕ} (same_note n x) 1 0) (note_of row.entry) old.notes))
    told n h (inl e) =
        let tells = note_tells n row.entry e in
        let here : cond {A = ℕ} (contradicts n row.entry) 1 0 ≡ 0 = rw tells.1 refl in
        let own : cond {A = ℕ} (row.entry.id == n.id) 1 0 ≡ 1 = rw (eq-eqb row.entry.id n.id (sym tells.0)) refl in
        let few = few_of n in
        inr (
          omega (arith, tells.0, below),
          omega (
            arith,
            split (contradicts n),
            split (λ r. r.id == n.id),
            few,
            count_more (contradicts n) (λ r. r.id == n.id) row.front (λ r c. (and_parts (r.id == n.id) (not ((r.section == n.section) && (r.start == n.start) && (r.length == n.length)) || (n.seen_dead && not r.dead)) c).0),
            count_more (contradicts n) (λ r. r.id == n.id) row.back (λ r c. (and_parts (r.id == n.id) (not ((r.section == n.section) && (r.start == n.start) && (r.length == n.length)) || (n.seen_dead && not r.dead)) c).0),
          ),
        )
      where
        few_of : (n : Note) → count_by (λ (r : Record). r.id == n.id) list.records ≤ 1
        few_of n = omega (arith, safe.cover.ids_apart n.id, one.only (records_with (λ r. r.id == n.id)) (of_records _))
