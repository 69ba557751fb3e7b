-- The worked state is safe.
use Rattle.std.proofs.Common.{◌≡◌, ℕ, zero, suc, ◌+◌, ◌<◌, ◌≤◌, ◌==◌, ◌&&◌, ◌||◌, ◌⊎◌, nat_lt, nat_le, List, length, sum_by, refl, sym, ap, ◌∙◌, subst, inl, inr, arith, Bool, true, false, not, cond, ne_eqb, slice_index}
use Rattle.std.proofs.lemmas.Bool.{cases_Bool, cases_lt, le-ltb, lt-leb}
use Rattle.std.proofs.lemmas.Bool.Decides.{nat_tests}
use Rattle.std.proofs.lemmas.List.{get_or_past}
use Rattle.tag_model.specs.declared.state.Kind.{Kind}
use Rattle.tag_model.specs.declared.state.Kind.TheVariants.{Bytes, Calls}
use Rattle.tag_model.specs.declared.state.Note.{Note}
use Rattle.tag_model.specs.declared.state.Run.{Run}
use Rattle.tag_model.specs.declared.state.Tag.{Tag}
use Rattle.tag_model.specs.Laws.{Safe, OneOfEach, SumLaw, CoverLaw, SweepLaw, IsCovered, cleared, contradicts, is_loaded_as, same_note, same_run, is_reading, tag_read, cpu_read, of_reader, runs_of_cpu}
use Rattle.tag_model.specs.Reference.{same_tag}
use Rattle.tag_model.specs.Worked.{small_shape, small_state, dead_tag, kernel_tag, first_module, second_module, run_inside, note_of_dead, first_cpu, second_cpu}
use Rattle.tag_model.specs.Wrap.{wrap}
use Rattle.tag_model.specs.WordState.{one_if, Every, word_of, word_from, word_place, counted, counted_of, is_cpu, records_with, runs_with, notes_with, users_of}
use Rattle.tag_model.proofs.BaseMoves.{note_tells}
use Rattle.tag_model.proofs.BookRows.{run_on_entry}
use Rattle.tag_model.proofs.CpuFits.{same_tag_means}

-- ---- a number below six, case by case

below_six : (P : ℕ → Type 0) → P 0 → P 1 → P 2 → P 3 → P 4 → P 5 → (t : ℕ) → t < 6 → P t
below_six P a b c d e f zero h = a
below_six P a b c d e f (suc zero) h = b
below_six P a b c d e f (suc (suc zero)) h = c
below_six P a b c d e f (suc (suc (suc zero))) h = d
below_six P a b c d e f (suc (suc (suc (suc zero)))) h = e
below_six P a b c d e f (suc (suc (suc (suc (suc zero))))) h = f
below_six P a b c d e f (suc (suc (suc (suc (suc (suc t)))))) h = absurd (omega arith)

-- ---- one of each

the_cpus : (n : ℕ) → n < 2 → sum_by (is_cpu n) small_state ≡ 1
the_cpus zero h = refl
the_cpus (suc zero) h = refl
the_cpus (suc (suc n)) h = absurd (omega arith)

three_apart : (n : ℕ) → one_if (0 == n) + (one_if (1 == n) + one_if (2 == n)) ≤ 1
three_apart n = grind (arith, nat_tests)

each : OneOfEach small_shape small_state
each = record { cpus = the_cpus; list = refl; pass = refl; places = λ n. omega (arith, three_apart n); few_places = omega arith }

-- ---- sums

none_past : (words : List ℕ) (place : ℕ) → length words ≤ place → slice_index words place ≡ 0
none_past words place past = get_or_past words place 0 past

place_past : (kind : Kind) (t : ℕ) → 6 ≤ t → 12 ≤ word_place kind t
place_past Bytes t high = omega arith
place_past Calls t high = omega arith

-- a tag number that isn't there counts nothing
not_there : (n t : ℕ) (x : ℕ) → n < t → cond {A = ℕ} (n == t) x 0 ≡ 0
not_there n t x below = ap (λ b. cond {A = ℕ} b x 0) (ne_eqb n t (λ e. omega arith))

nothing_past : (kind : Kind) (t : ℕ) → 6 ≤ t → sum_by (counted kind t) small_state ≡ 0
nothing_past Bytes t high = omega (arith, not_there 4 t 16 (omega arith), not_there 4 t 64 (omega arith), not_there 0 t 8 (omega arith))
nothing_past Calls t high = omega (arith, not_there 4 t 1 (omega arith), not_there 0 t 1 (omega arith))

sums : SumLaw small_state
sums = record { sums = λ kind t. go kind t (cases_lt t 6) }
  where
    go : (kind : Kind) (t : ℕ) → (t < 6) ⊎ (6 ≤ t) → wrap (sum_by (word_of kind t) small_state) ≡ wrap (sum_by (counted kind t) small_state)
    go Bytes t (inl low) = below_six (λ u. wrap (sum_by (word_of Bytes u) small_state) ≡ wrap (sum_by (counted Bytes u) small_state)) refl refl refl refl refl refl t low
    go Calls t (inl low) = below_six (λ u. wrap (sum_by (word_of Calls u) small_state) ≡ wrap (sum_by (counted Calls u) small_state)) refl refl refl refl refl refl t low
    go kind t (inr high) =
        let words : sum_by (word_of kind t) small_state ≡ 0 = omega (arith, none_past first_cpu.words (word_place kind t) (omega (arith, place_past kind t high)), none_past second_cpu.words (word_place kind t) (omega (arith, place_past kind t high))) in
        ap wrap (words ∙ sym (nothing_past kind t high))

-- ---- the cover law

two_ids : (id : ℕ) → cond {A = ℕ} (1 == id) 1 0 + cond {A = ℕ} (2 == id) 1 0 ≤ 1
two_ids id = grind (arith, nat_tests)

two_ranges : (t : ℕ) → cond {A = ℕ} (nat_le 2 t && nat_lt t 4) 1 0 + cond {A = ℕ} (nat_le 4 t && nat_lt t 6) 1 0 ≤ 1
two_ranges t = grind (arith, nat_tests)

counted_tags : (tag : Tag) → 0 < sum_by (counted_of Calls tag) small_state → IsCovered small_shape small_state tag
counted_tags tag h = go (cases_Bool (same_tag dead_tag tag)) (cases_Bool (same_tag kernel_tag tag))
  where
    go : (same_tag dead_tag tag ≡ true) ⊎ (same_tag dead_tag tag ≡ false) → (same_tag kernel_tag tag ≡ true) ⊎ (same_tag kernel_tag tag ≡ false) → IsCovered small_shape small_state tag
    go (inl is) other = subst (λ x. IsCovered small_shape small_state x) (same_tag_means dead_tag tag is) (inr (omega arith))
    go (inr no_dead) (inl is) = subst (λ x. IsCovered small_shape small_state x) (same_tag_means kernel_tag tag is) (inl (refl, omega arith))
    go (inr no_dead) (inr no_kernel) =
        let dead : cond {A = ℕ} (same_tag dead_tag tag) 1 0 ≡ 0 = ap (λ b. cond {A = ℕ} b 1 0) no_dead in
        let kernel : cond {A = ℕ} (same_tag kernel_tag tag) 1 0 ≡ 0 = ap (λ b. cond {A = ℕ} b 1 0) no_kernel in
        absurd (omega arith)

the_runs : (run : Run) → 0 < sum_by (runs_with (same_run run)) small_state → 0 < sum_by (records_with (is_loaded_as run)) small_state
the_runs run h = go (cases_Bool (same_run run run_inside))
  where
    go : (same_run run run_inside ≡ true) ⊎ (same_run run run_inside ≡ false) → 0 < sum_by (records_with (is_loaded_as run)) small_state
    go (inl is) =
        let one : cond {A = ℕ} (is_loaded_as run first_module) 1 0 ≡ 1 = ap (λ b. cond {A = ℕ} b 1 0) (run_on_entry run first_module is refl) in
        omega arith
    go (inr none) =
        let zero_here : cond {A = ℕ} (same_run run run_inside) 1 0 ≡ 0 = ap (λ b. cond {A = ℕ} b 1 0) none in
        absurd (omega arith)

one_each : (id : ℕ) → Every (λ p. nat_le (runs_of_cpu id p) 1) small_state
one_each id = go (1 == id) refl
  where
    go : (b : Bool) → (1 == id) ≡ b → Every (λ p. nat_le (runs_of_cpu id p) 1) small_state
    go true is = rw is refl
    go false is = rw is refl

the_users : (id : ℕ) → sum_by (runs_with (λ r. r.id == id)) small_state ≡ sum_by (users_of id) small_state
the_users id = omega (arith, go (1 == id) (2 == id))
  where
    go : (a b : Bool) → cond {A = ℕ} a 1 0 ≡ cond {A = ℕ} a 1 0 + cond {A = ℕ} b 0 0
    go true true = refl
    go true false = refl
    go false true = refl
    go false false = refl

the_note : (n : Note) → 0 < sum_by (notes_with (same_note n)) small_state → same_note n note_of_dead ≡ true
the_note n h = go (cases_Bool (same_note n note_of_dead))
  where
    go : (same_note n note_of_dead ≡ true) ⊎ (same_note n note_of_dead ≡ false) → same_note n note_of_dead ≡ true
    go (inl is) = is
    go (inr none) =
        let zero_here : cond {A = ℕ} (same_note n note_of_dead) 1 0 ≡ 0 = ap (λ b. cond {A = ℕ} b 1 0) none in
        absurd (omega arith)

note_agrees : (n : Note) → 0 < sum_by (notes_with (same_note n)) small_state → sum_by (records_with (contradicts n)) small_state ≡ 0
note_agrees n h =
    let tells = note_tells n second_module (the_note n h) in
    let other : contradicts n first_module ≡ false = ap (λ b. b && (not ((1 == n.section) && (2 == n.start) && (2 == n.length)) || (n.seen_dead && true))) (ne_eqb 1 n.id (λ e. omega (arith, tells.0))) in
    let first : cond {A = ℕ} (contradicts n first_module) 1 0 ≡ 0 = ap (λ b. cond {A = ℕ} b 1 0) other in
    let second : cond {A = ℕ} (contradicts n second_module) 1 0 ≡ 0 = ap (λ b. cond {A = ℕ} b 1 0) tells.1 in
    omega arith

cover : CoverLaw small_shape small_state
cover = record {
  ids_below_next = refl;
  ids_apart = λ id. omega (arith, two_ids id);
  ranges_apart = λ t. omega (arith, two_ranges t);
  named = counted_tags;
  runs = the_runs;
  one_run = one_each;
  users = the_users;
  notes_known = λ n h. omega (arith, (note_tells n second_module (the_note n h)).0);
  notes_agree = note_agrees;
}

-- ---- the sweep law

reading_small : (kind : Kind) → 0 < sum_by (is_reading kind) small_state → sum_by (counted kind (tag_read small_state)) small_state ≤ wrap (sum_by (of_reader (λ r. r.sum)) small_state + sum_by (word_from (cpu_read small_state) kind (tag_read small_state)) small_state)
reading_small Bytes h = omega arith
reading_small Calls h = absurd (omega arith)

-- no tag of the record is before the one that is read
none_before : (t : ℕ) → one_if (nat_le 4 t && nat_lt t 6 && nat_lt t 4 || false) ≡ 0
none_before t = elim (cases_lt t 4) [ inl low ↦ rw (lt-leb 4 t low) refl | inr high ↦ rw (le-ltb t 4 high) (none_and (nat_le 4 t && nat_lt t 6)) ]
  where
    none_and : (b : Bool) → one_if (b && false || false) ≡ 0
    none_and true = refl
    none_and false = refl

none_cleared : (kind : Kind) (t : ℕ) → sum_by (cleared kind t) small_state ≡ 0
none_cleared Calls t = refl
none_cleared Bytes t = omega (arith, none_before t)

sweep_law : SweepLaw small_shape small_state
sweep_law = record { fits = refl; reading = reading_small; cleared = λ kind t h. absurd (omega (arith, none_cleared kind t)) }

pub small_state_is_safe : Safe small_shape small_state
small_state_is_safe = record { fits = refl; each = each; sums = sums; cover = cover; sweep = sweep_law }
