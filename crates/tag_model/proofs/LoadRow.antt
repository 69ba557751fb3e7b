-- A record that is loaded under the next id, over a range that meets no record, keeps all the laws.
use Rattle.std.proofs.Common.{◌≡◌, ℕ, ◌+◌, ◌<◌, ◌≤◌, ◌==◌, ◌&&◌, ◌||◌, ◌⊎◌, nat_lt, nat_le, List, [], ◌∷◌, ◌++◌, sum_by, count_by, refl, sym, ap, ◌∙◌, subst, inl, inr, arith, Bool, true, false, not, cond, eqb-true, ltb-true, ltb-false, lt-ltb, le-ltb, ne_eqb, if◌then◌else◌}
use Rattle.std.specs.List.{list_any, list_all}
use Rattle.std.proofs.lemmas.Bool.{and_parts, and_from, or_cases, or_left, false≢true, not-true, cases_Bool, cases_eq, cond_both, and_left}
use Rattle.std.proofs.lemmas.List.Sums.{sum_by-cons, sum_by-append}
use Rattle.std.proofs.lemmas.List.Folds.{list_any-append, list_all-append}
use Rattle.tag_model.specs.declared.shape.Shape.{Shape}
use Rattle.tag_model.specs.declared.state.Kind.TheVariants.{Calls}
use Rattle.tag_model.specs.declared.state.ListPart.{ListPart}
use Rattle.tag_model.specs.declared.state.Part.{Part}
use Rattle.tag_model.specs.declared.state.Part.TheVariants.{Cpu, Place, Modules, NextId}
use Rattle.tag_model.specs.declared.state.Record.{Record}
use Rattle.tag_model.specs.declared.state.Tag.{Tag}
use Rattle.tag_model.specs.Laws.{Safe, CoverLaw, IsCovered, is_loaded_as, same_run, same_note, contradicts, runs_of_cpu, rises_from, ids_of, is_listed, are_dead}
use Rattle.tag_model.specs.Shape.{IsChecked}
use Rattle.tag_model.specs.StepRules.{Loads, Becomes}
use Rattle.tag_model.specs.WordState.{one_if, Every, word_of, word_from, counted, counted_of, in_range, is_pass, records_with, runs_with, notes_with, users_of, next_id, record_fits, part_fits}
use Rattle.tag_model.proofs.Alike.{of_high, of_records}
use Rattle.tag_model.proofs.Found.{found_any, none_fails, fails_none, count_at, count_more}
use Rattle.tag_model.proofs.ListRows.{OneList, list_with_pass, one_before, one_after, the_one, sweep_ok, sweep_from, sweep_ok_after}
use Rattle.tag_model.proofs.Lists.{record_fits_from, listed_is_dead, in_range_means}
use Rattle.tag_model.proofs.Parts.{becomes_same, every_after, every_before}
use Rattle.tag_model.proofs.Records.{each_after, SweepMoves, sweep_moves}
use Rattle.tag_model.proofs.Swept.{ListLaws, list_laws}

-- ---- the next id is above all ids

no_pass_at : (p : Part) → is_pass p ≡ 0 → next_id p ≡ 0
no_pass_at (Cpu c) e = refl
no_pass_at (Place n held) e = refl
no_pass_at (Modules l) e = refl
no_pass_at (NextId id) e = absurd (omega arith)

pub no_pass : (ps : List Part) → sum_by is_pass ps ≡ 0 → sum_by next_id ps ≡ 0
no_pass [] e = refl
no_pass (p ∷ ps) e = omega (arith, sum_by-cons is_pass p ps, sum_by-cons next_id p ps, no_pass_at p (omega (arith, sum_by-cons is_pass p ps)), no_pass ps (omega (arith, sum_by-cons is_pass p ps)))

nothing_else : (n : ℕ) → one_if (not (n == 0)) ≡ 0 → n ≡ 0
nothing_else n e = eqb-true n 0 (none_fails (n == 0) e)

-- no record has an id from the next one on
pub none_high : (next : ℕ) (l : ListPart) (ps : List Part) → OneList l ps → Every (λ p. (records_with (λ r. not (nat_lt r.id next)) p == 0)) ps → count_by (λ (r : Record). not (nat_lt r.id next)) l.records ≡ 0
none_high next l ps o e = nothing_else (count_by (λ (r : Record). not (nat_lt r.id next)) l.records) (omega (arith, o.only (λ p. one_if (not (records_with (λ r. not (nat_lt r.id next)) p == 0))) (of_high next)))

-- ids that rise go on rising where a higher one joins
rises_push : (low next : ℕ) (records : List Record) (r : Record) → low < next → r.id ≡ next → rises_from low (ids_of records) ≡ true → count_by (λ (x : Record). not (nat_lt x.id next)) records ≡ 0 → rises_from low (ids_of (records ++ r ∷ [])) ≡ true
rises_push low next [] r below is e none = and_from _ _ (lt-ltb low r.id (omega arith)) refl
rises_push low next (x ∷ records) r below is e none =
    let both = and_parts (nat_lt low x.id) (rises_from x.id (ids_of records)) e in
    let count = sum_by-cons (λ (y : Record). cond {A = ℕ} (not (nat_lt y.id next)) 1 0) x records in
    and_from _ _ both.0 (rises_push x.id next records r (lower (cases_Bool (nat_lt x.id next)) (omega arith)) is both.1 (omega arith))
  where
    lower : (nat_lt x.id next ≡ true) ⊎ (nat_lt x.id next ≡ false) → cond {A = ℕ} (not (nat_lt x.id next)) 1 0 ≡ 0 → x.id < next
    lower (inl e) h = ltb-true x.id next e
    lower (inr e) h = let one : cond {A = ℕ} (not (nat_lt x.id next)) 1 0 ≡ 1 = rw e refl in absurd (omega arith)

-- ---- one more record

pub count_push : {X : Type 0} (p : X → Bool) (xs : List X) (x : X) → count_by p (xs ++ x ∷ []) ≡ count_by p xs + cond (p x) 1 0
count_push {X} p xs x = omega (arith, sum_by-append (λ (y : X). cond {A = ℕ} (p y) 1 0) xs (x ∷ []))

any_push : {X : Type 0} (p : X → Bool) (xs : List X) (x : X) → list_any p (xs ++ x ∷ []) ≡ true → (list_any p xs ≡ true) ⊎ (p x ≡ true)
any_push p xs x e = elim (or_cases (list_any p xs) (p x || false) (sym (list_any-append p xs (x ∷ [])) ∙ e)) [ inl here ↦ inl here | inr last ↦ elim (or_cases (p x) false last) [ inl here ↦ inr here | inr never ↦ absurd (false≢true never) ] ]

any_stays : {X : Type 0} (p : X → Bool) (xs : List X) (x : X) → list_any p xs ≡ true → list_any p (xs ++ x ∷ []) ≡ true
any_stays p xs x e = list_any-append p xs (x ∷ []) ∙ or_left _ _ e

-- its id is on no sweep's list
not_listed : (left : List ℕ) (records : List Record) (next : ℕ) → are_dead left records ≡ true → count_by (λ (x : Record). not (nat_lt x.id next)) records ≡ 0 → is_listed left next ≡ true → ⊥
not_listed left records next dead none listed =
    let f = found_any (λ (r : Record). (r.id == next) && r.dead) records (listed_is_dead left records next dead listed) in
    let same = eqb-true f.item.id next (and_parts (f.item.id == next) f.item.dead f.passes).0 in
    let high : not (nat_lt f.item.id next) ≡ true = ap not (le-ltb f.item.id next (omega arith)) in
    omega (arith, subst (λ xs. 0 < count_by (λ (x : Record). not (nat_lt x.id next)) xs) (sym f.is) (count_at (λ (x : Record). not (nat_lt x.id next)) f.front f.item f.back high))

moves_load : (left : List ℕ) (records : List Record) (r : Record) → are_dead left records ≡ true → count_by (λ (x : Record). not (nat_lt x.id r.id)) records ≡ 0 → SweepMoves left records (records ++ r ∷ [])
moves_load left records r dead none = record {
  dead = λ id listed e. any_stays (λ (x : Record). (x.id == id) && x.dead) records r e;
  ranged = λ id t listed e. any_stays (λ (x : Record). (x.id == id) && in_range x.start x.length t) records r e;
  covers = λ t e. old (λ (x : Record). is_listed left x.id && in_range x.start x.length t) (λ h. (and_parts (is_listed left r.id) (in_range r.start r.length t) h).0) e;
  reads = λ reader t e. old (λ (x : Record). is_listed left x.id && in_range x.start x.length t && (nat_lt x.id reader.id || ((x.id == reader.id) && nat_lt t reader.tag)))
      (λ h. (and_parts (is_listed left r.id) (in_range r.start r.length t) (and_parts (is_listed left r.id && in_range r.start r.length t) (nat_lt r.id reader.id || ((r.id == reader.id) && nat_lt t reader.tag)) h).0).0) e;
}
  where
    old : (test : Record → Bool) → (test r ≡ true → is_listed left r.id ≡ true) → list_any test (records ++ r ∷ []) ≡ true → list_any test records ≡ true
    old test listed e = elim (any_push test records r e) [ inl here ↦ here | inr last ↦ absurd (not_listed left records r.id dead none (listed last)) ]

-- ---- the row

pub safe-loads : (k : Shape) (section start length id : ℕ) (old new : ListPart) (ps qs : List Part) → IsChecked k → Loads k section start length id old new → Becomes (Modules old ∷ NextId id ∷ []) (Modules new ∷ NextId (id + 1) ∷ []) ps qs → Safe k ps → Safe k qs
safe-loads k section start length id old new ps qs checked row steps safe = record {
  fits = every_after (part_fits k) v w ps qs b (omega (arith, fails_none (list_all (record_fits k) n.records) fits, fails_none (nat_lt 0 (id + 1)) (lt-ltb 0 (id + 1) (omega arith)))) safe.fits;
  each = each_after k v w ps qs (record { cpus = λ m. refl; list = refl; pass = refl; places = λ m. refl; few_places = refl }) b safe.each;
  sums = record { sums = λ kind t. rw (becomes_same (word_of kind t) v w ps qs b refl, becomes_same (counted kind t) v w ps qs b refl) (safe.sums.sums kind t) };
  cover = cover;
  sweep = sweep_from k n qs (one_after v w ps qs old n (list_with_pass old id) (list_with_pass n (id + 1)) b safe.each.list) (rises_push 0 id old.records r above refl laws.rise high)
      (sweep_ok_after k old.sweep n.records ps qs (λ kind t. becomes_same (counted kind t) v w ps qs b refl) (λ i kind t. becomes_same (word_from i kind t) v w ps qs b refl)
      (sweep_moves k old.sweep old.records n.records ps (λ left rises dead. moves_load left old.records r dead high) (sweep_ok k old ps one laws safe.sweep)));
}
  where
    r : Record
    r = record { id = id; section = section; start = start; length = length; dead = false; users = 0 }

    n : ListPart
    n = record old { records = old.records ++ r ∷ [] }

    v : List Part
    v = Modules old ∷ NextId id ∷ []

    w : List Part
    w = Modules n ∷ NextId (id + 1) ∷ []

    b : Becomes v w ps qs
    b = subst (λ y. Becomes v (Modules y ∷ NextId (id + 1) ∷ []) ps qs) row.after steps

    one : OneList old ps
    one = one_before v w ps qs old (list_with_pass old id) b safe.each.list

    laws : ListLaws k old
    laws = list_laws k ps (the_one one) safe.fits safe.cover safe.sweep.fits

    above : 0 < id
    above = ltb-true 0 id (none_fails (nat_lt 0 id) (omega (arith, every_before (part_fits k) v w ps qs b safe.fits)))

    fits : list_all (record_fits k) n.records ≡ true
    fits = list_all-append (record_fits k) old.records (r ∷ []) ∙ and_from _ _ laws.records_fit (and_from _ _ (record_fits_from k r (record { id_above = above; some = row.some; above_kernel = row.above_kernel; within = row.within })) refl)

    none_rest : sum_by next_id b.rest ≡ 0
    none_rest = no_pass b.rest (omega (arith, b.before is_pass, safe.each.pass))

    next : sum_by next_id ps ≡ id
    next = omega (arith, b.before next_id, none_rest)

    next_after : sum_by next_id qs ≡ id + 1
    next_after = omega (arith, b.after next_id, none_rest)

    high : count_by (λ (x : Record). not (nat_lt x.id id)) old.records ≡ 0
    high = none_high id old ps one (subst (λ m. Every (λ p. (records_with (λ x. not (nat_lt x.id m)) p == 0)) ps) next safe.cover.ids_below_next)

    records : (test : Record → Bool) → sum_by (records_with test) qs ≡ sum_by (records_with test) ps + cond (test r) 1 0
    records test = omega (arith, b.before (records_with test), b.after (records_with test), count_push test old.records r)

    same : (f : Part → ℕ) → sum_by f v ≡ sum_by f w → sum_by f qs ≡ sum_by f ps
    same f e = becomes_same f v w ps qs b e

    cover : CoverLaw k qs
    cover = record {
      ids_below_next = subst (λ m. Every (λ p. (records_with (λ x. not (nat_lt x.id m)) p == 0)) qs) (sym next_after) below;
      ids_apart = λ other. ids other (cases_eq id other);
      ranges_apart = λ t. ranges t (cases_Bool (in_range start length t));
      named = λ tag h. covered tag (safe.cover.named tag (omega (arith, same (counted_of Calls tag) refl)));
      runs = λ run h. omega (arith, records (is_loaded_as run), safe.cover.runs run (omega (arith, same (runs_with (same_run run)) refl)));
      one_run = λ other. omega (arith, safe.cover.one_run other, same (λ p. one_if (not (nat_le (runs_of_cpu other p) 1))) refl);
      users = λ other. omega (
        arith,
        safe.cover.users other,
        same (runs_with (λ x. x.id == other)) refl,
        b.before (users_of other),
        b.after (users_of other),
        sum_by-append (λ (x : Record). if x.id == other then x.users else 0) old.records (r ∷ []),
        none (id == other),
      );
      notes_known = λ note h. omega (arith, next, next_after, safe.cover.notes_known note (omega (arith, same (notes_with (same_note note)) refl)));
      notes_agree = λ note h.
          let was : 0 < sum_by (notes_with (same_note note)) ps = omega (arith, same (notes_with (same_note note)) refl) in
          let other : contradicts note r ≡ false = and_left _ _ (ne_eqb id note.id (λ e. omega (arith, e, next, safe.cover.notes_known note was))) in
          let nothing : cond {A = ℕ} (contradicts note r) 1 0 ≡ 0 = rw other refl in
          omega (arith, records (contradicts note), safe.cover.notes_agree note was);
    }
      where
        none : (c : Bool) → cond {A = ℕ} c 0 0 ≡ 0
        none true = refl
        none false = refl

        below : Every (λ p. (records_with (λ x. not (nat_lt x.id (id + 1))) p == 0)) qs
        below =
            let few = count_more (λ (x : Record). not (nat_lt x.id (id + 1))) (λ (x : Record). not (nat_lt x.id id)) old.records (λ x e. ap not (le-ltb x.id id (omega (arith, ltb-false x.id (id + 1) (not-true _ e))))) in
            let own : cond {A = ℕ} (not (nat_lt id (id + 1))) 1 0 ≡ 0 = rw (lt-ltb id (id + 1) (omega arith)) refl in
            let now : count_by (λ (x : Record). not (nat_lt x.id (id + 1))) n.records ≡ 0 = omega (arith, high, count_push (λ (x : Record). not (nat_lt x.id (id + 1))) old.records r) in
            let o = one_after v w ps qs old n (list_with_pass old id) (list_with_pass n (id + 1)) b safe.each.list in
            let here : one_if (not (count_by (λ (x : Record). not (nat_lt x.id (id + 1))) n.records == 0)) ≡ 0 = rw now refl in
            o.only (λ p. one_if (not (records_with (λ x. not (nat_lt x.id (id + 1))) p == 0))) (of_high (id + 1)) ∙ here

        ids : (other : ℕ) → (id ≡ other) ⊎ (id ≡ other → ⊥) → sum_by (records_with (λ x. x.id == other)) qs ≤ 1
        ids other (inr ne) =
            let nothing : cond {A = ℕ} (id == other) 1 0 ≡ 0 = rw (ne_eqb id other ne) refl in
            omega (arith, records (λ x. x.id == other), safe.cover.ids_apart other)
        ids other (inl e) =
            let few = count_more (λ (x : Record). x.id == other) (λ (x : Record). not (nat_lt x.id id)) old.records (λ x is. ap not (le-ltb x.id id (omega (arith, eqb-true x.id other is, e)))) in
            let at_most : cond {A = ℕ} (id == other) 1 0 ≤ 1 = cond_both (id == other) 1 0 (λ m. m ≤ 1) (λ h. omega arith) (λ h. omega arith) in
            omega (arith, high, records (λ x. x.id == other), one.only (records_with (λ x. x.id == other)) (of_records (λ x. x.id == other)))

        ranges : (t : ℕ) → (in_range start length t ≡ true) ⊎ (in_range start length t ≡ false) → sum_by (records_with (λ x. in_range x.start x.length t)) qs ≤ 1
        ranges t (inl e) =
            let within = in_range_means start length t e in
            let own : cond {A = ℕ} (in_range start length t) 1 0 ≡ 1 = rw e refl in
            omega (arith, records (λ x. in_range x.start x.length t), one.only (records_with (λ x. in_range x.start x.length t)) (of_records (λ x. in_range x.start x.length t)), row.clear t within.0 within.1)
        ranges t (inr e) =
            let own : cond {A = ℕ} (in_range start length t) 1 0 ≡ 0 = rw e refl in
            omega (arith, records (λ x. in_range x.start x.length t), safe.cover.ranges_apart t)

        covered : (tag : Tag) → IsCovered k ps tag → IsCovered k qs tag
        covered tag (inl h) = inl h
        covered tag (inr h) = inr (omega (arith, records (λ x. (x.id == tag.module) && in_range x.start x.length tag.number)))
