-- A fresh core is a core: nothing is counted, and each part is there once.
use Rattle.std.proofs.Common.{◌≡◌, ℕ, zero, suc, ◌+◌, ◌*◌, ◌<◌, ◌≤◌, List, [], ◌∷◌, ◌++◌, length, get_or, replicate, refl, sym, ap, ◌∙◌, subst, arith, Option, None, Bool, true, false, inl, inr, sum_by, nat_lt, nat_le, not, ◌&&◌, ◌==◌, ◌%◌, ◌^◌}
use Rattle.std.proofs.lemmas.Bool.Decides.{nat_tests}
use Rattle.std.proofs.lemmas.Bool.{cases_lt}
use Rattle.std.proofs.lemmas.List.{get_or-replicate, get_or_past, length-replicate}
use Rattle.std.proofs.lemmas.List.Sums.{sum_by-cons}
use Rattle.tag_model.specs.declared.shape.Shape.{Shape}
use Rattle.tag_model.specs.declared.state.Held.TheVariants as held
use Rattle.tag_model.specs.declared.state.Kind.TheVariants.{Calls}
use Rattle.tag_model.specs.declared.state.Part.{Part}
use Rattle.tag_model.specs.declared.state.Part.TheVariants.{Cpu, Place, Modules, NextId}
use Rattle.tag_model.specs.declared.limits.TheConstants.{MAX_PLACES}
use Rattle.tag_model.specs.Shape.{IsChecked}
use Rattle.tag_model.specs.WordState.{is_cpu, is_place, is_place_at, is_list, is_pass, part_fits, word_place, word_of, counted, counted_of, records_with, runs_with, notes_with, users_of, one_if, in_range, next_id}
use Rattle.tag_model.specs.Laws.{Safe, OneOfEach, SumLaw, CoverLaw, SweepLaw, list_fits, is_reading, cleared, same_run, same_note, runs_of_cpu}
use Rattle.tag_model.specs.declared.state.Hand.{Hand}
use Rattle.cpu_ops.specs.declared.op.TheConstants.{KEY_END}
use Rattle.cpu_ops.specs.Machine.{Waiting, Machine, machine_of, fresh_machine, no_places, nothing_waits, reserves, run_at}
use Rattle.tag_model.specs.declared.state.Run.{Run}
use Rattle.tag_model.specs.declared.state.ListPart.{ListPart}
use Rattle.tag_model.specs.declared.state.Sweep.TheVariants as sweep
use Rattle.tag_section.specs.Section.{Section}
use Rattle.module_ops.specs.Modules.{ModuleTable}
use Rattle.core_steps.specs.CoreState.{cpu_part, cpu_parts, place_parts, runs_in, runs_of, state_with, AreModules, SectionsFitShape, IsCore, IsReadyAt}
use Rattle.module_ops.specs.Modules.{fresh_modules}
use Rattle.core_steps.proofs.Parts.{sum_both, cpu_parts-same}

-- no CPU is inside a module, and none was ever loaded
abbrev no_runs : ℕ → List Run
no_runs cpu = []

abbrev no_modules : ListPart
no_modules = record { records = []; sweep = sweep.None; stops = []; reads = 0; away = [] }

zero_cpus : (f : Part → ℕ) (own : List ℕ) (n count : ℕ) → ((j : ℕ) → j < n + count → f (Cpu (cpu_part j None own [])) ≡ 0) → sum_by f (cpu_parts n (replicate count None) (replicate count own) no_runs) ≡ 0
zero_cpus f own n zero h = refl
zero_cpus f own n (suc count) h =
    omega (arith, sum_by-cons f (Cpu (cpu_part n None own [])) (cpu_parts (n + 1) (replicate count None) (replicate count own) no_runs), h n (omega arith), zero_cpus f own (n + 1) count (λ j l. h j (omega arith)))

zero_places : (f : Part → ℕ) (n count : ℕ) → ((j : ℕ) → f (Place j held.None) ≡ 0) → sum_by f (place_parts n (replicate count held.None)) ≡ 0
zero_places f n zero h = refl
zero_places f n (suc count) h = omega (arith, sum_by-cons f (Place n held.None) (place_parts (n + 1) (replicate count held.None)), h n, zero_places f (n + 1) count h)

sum_state : (f : Part → ℕ) (cpus places : List Part) → sum_by f (cpus ++ (places ++ Modules no_modules ∷ NextId 1 ∷ [])) ≡ sum_by f cpus + sum_by f places + f (Modules no_modules) + f (NextId 1)
sum_state f cpus places = omega (arith, sum_both f cpus (places ++ Modules no_modules ∷ NextId 1 ∷ []), sum_both f places (Modules no_modules ∷ NextId 1 ∷ []), sum_by-cons f (Modules no_modules) (NextId 1 ∷ []), sum_by-cons f (NextId 1) [])

zero_word : (n i : ℕ) → get_or {A = ℕ} (replicate n 0) i 0 ≡ 0
zero_word n i = elim (cases_lt i n) [
  | inl l ↦ get_or-replicate n i 0 0 l
  | inr g ↦ get_or_past (replicate n 0) i 0 (omega (arith, length-replicate {A = ℕ} n 0))
]

-- each CPU of a run of numbers once
one_cpu : (own : List ℕ) (i n count : ℕ) → sum_by (is_cpu i) (cpu_parts n (replicate count None) (replicate count own) no_runs) ≡ one_if (nat_le n i && nat_lt i (n + count))
one_cpu own i n zero = grind (arith, nat_tests)
one_cpu own i n (suc count) =
    let rest = one_cpu own i (n + 1) count in
    let all = sum_by-cons (is_cpu i) (Cpu (cpu_part n None own [])) (cpu_parts (n + 1) (replicate count None) (replicate count own) no_runs) in
    grind (arith, nat_tests)

one_place : (i n count : ℕ) → sum_by (is_place_at i) (place_parts n (replicate count held.None)) ≡ one_if (nat_le n i && nat_lt i (n + count))
one_place i n zero = grind (arith, nat_tests)
one_place i n (suc count) =
    let rest = one_place i (n + 1) count in
    let all = sum_by-cons (is_place_at i) (Place n held.None) (place_parts (n + 1) (replicate count held.None)) in
    grind (arith, nat_tests)

all_places : (n count : ℕ) → sum_by is_place (place_parts n (replicate count held.None)) ≡ count
all_places n zero = refl
all_places n (suc count) = omega (arith, all_places (n + 1) count, sum_by-cons is_place (Place n held.None) (place_parts (n + 1) (replicate count held.None)))

one_if_le : (b : Bool) → one_if b ≤ 1
one_if_le true = omega arith
one_if_le false = omega arith

module _ (k : Shape) (checked : IsChecked k) (places : ℕ) (few : places ≤ MAX_PLACES) where
  own : List ℕ
  own = replicate (2 * k.tags) 0

  cpus : List Part
  cpus = cpu_parts 0 (replicate k.cpus None) (replicate k.cpus own) no_runs

  all : List Part
  all = place_parts 0 (replicate places held.None)

  parts : List Part
  parts = cpus ++ (all ++ Modules no_modules ∷ NextId 1 ∷ [])

  -- a weight that no part of a fresh core has
  none : (f : Part → ℕ) → ((j : ℕ) → j < k.cpus → f (Cpu (cpu_part j None own [])) ≡ 0) → ((j : ℕ) → f (Place j held.None) ≡ 0) → f (Modules no_modules) ≡ 0 → f (NextId 1) ≡ 0 → sum_by f parts ≡ 0
  unfolding parts cpus all
  none f on_cpus on_places on_list on_pass =
      omega (
        arith,
        sum_state f (cpu_parts 0 (replicate k.cpus None) (replicate k.cpus own) no_runs) (place_parts 0 (replicate places held.None)),
        zero_cpus f own 0 k.cpus (λ j l. on_cpus j (omega arith)),
        zero_places f 0 places on_places,
        on_list,
        on_pass,
      )

  each : OneOfEach k parts
  unfolding parts cpus all
  each = record {
    cpus = λ n below. let c = one_cpu own n 0 k.cpus in let p = zero_places (is_cpu n) 0 places (λ j. refl) in let s = sum_state (is_cpu n) cpus all in grind (arith, nat_tests);
    list = let c = zero_cpus is_list own 0 k.cpus (λ j l. refl) in let p = zero_places is_list 0 places (λ j. refl) in omega (arith, sum_state is_list cpus all);
    pass = let c = zero_cpus is_pass own 0 k.cpus (λ j l. refl) in let p = zero_places is_pass 0 places (λ j. refl) in omega (arith, sum_state is_pass cpus all);
    places = λ n. let c = zero_cpus (is_place_at n) own 0 k.cpus (λ j l. refl) in let p = one_place n 0 places in omega (arith, sum_state (is_place_at n) cpus all, one_if_le (nat_le 0 n && nat_lt n (0 + places)));
    few_places = let c = zero_cpus is_place own 0 k.cpus (λ j l. refl) in let p = all_places 0 places in omega (arith, sum_state is_place cpus all);
  }

  sums : SumLaw parts
  unfolding own
  sums = record {
    sums = λ kind t. ap (λ (n : ℕ). n % 2 ^ 64)
        (none (word_of kind t) (λ j l. zero_word (2 * k.tags) (word_place kind t)) (λ j. refl) refl refl ∙ sym (none (counted kind t) (λ j l. refl) (λ j. refl) refl refl));
  }

  fits : sum_by (λ p. one_if (not (part_fits k p))) parts ≡ 0
  unfolding own
  fits = none (λ p. one_if (not (part_fits k p))) (λ j l. let len = length-replicate {A = ℕ} (2 * k.tags) 0 in grind (arith, nat_tests)) (λ j. refl) refl refl

  cover : CoverLaw k parts
  cover = record {
    ids_below_next = none (λ p. one_if (not (records_with (λ r. not (nat_lt r.id (sum_by next_id parts))) p == 0))) (λ j l. refl) (λ j. refl) refl refl;
    ids_apart = λ id. omega (arith, none (records_with (λ r. r.id == id)) (λ j l. refl) (λ j. refl) refl refl);
    ranges_apart = λ t. omega (arith, none (records_with (λ r. in_range r.start r.length t)) (λ j l. refl) (λ j. refl) refl refl);
    named = λ tag some. absurd (omega (arith, none (counted_of Calls tag) (λ j l. refl) (λ j. refl) refl refl));
    runs = λ run some. absurd (omega (arith, none (runs_with (same_run run)) (λ j l. refl) (λ j. refl) refl refl));
    one_run = λ id. none (λ p. one_if (not (nat_le (runs_of_cpu id p) 1))) (λ j l. refl) (λ j. refl) refl refl;
    users = λ id. none (runs_with (λ r. r.id == id)) (λ j l. refl) (λ j. refl) refl refl ∙ sym (none (users_of id) (λ j l. refl) (λ j. refl) refl refl);
    notes_known = λ n some. absurd (omega (arith, none (notes_with (same_note n)) (λ j l. refl) (λ j. refl) refl refl));
    notes_agree = λ n some. absurd (omega (arith, none (notes_with (same_note n)) (λ j l. refl) (λ j. refl) refl refl));
  }

  sweep_law : SweepLaw k parts
  sweep_law = record {
    fits = none (λ p. one_if (not (list_fits k p))) (λ j l. refl) (λ j. refl) refl refl;
    reading = λ kind some. absurd (omega (arith, none (is_reading kind) (λ j l. refl) (λ j. refl) refl refl));
    cleared = λ kind t some. absurd (omega (arith, none (cleared kind t) (λ j l. refl) (λ j. refl) refl refl));
  }

  pub safe_fresh : Safe k (cpu_parts 0 (replicate k.cpus None) (replicate k.cpus (replicate (2 * k.tags) 0)) no_runs ++ (place_parts 0 (replicate places held.None) ++ Modules no_modules ∷ NextId 1 ∷ []))
  unfolding parts cpus all own
  safe_fresh = record { fits = fits; each = each; sums = sums; cover = cover; sweep = sweep_law }

length-fresh : {A : Type 0} → (n : ℕ) (x : A) → length (replicate n x) ≡ n
length-fresh n x = length-replicate n x

ready_fresh : (cpus : ℕ) (sections : List Section) (places cpu : ℕ) → cpu < cpus → IsReadyAt sections (machine_of (replicate cpus None) (replicate places held.None) (replicate cpus nothing_waits)) cpu
ready_fresh cpus sections places cpu below =
    rw (get_or-replicate cpus cpu nothing_waits nothing_waits below, get_or-replicate {A = Option Hand} cpus cpu None None below) (refl, refl)

none_run : (n : ℕ) → runs_in (replicate n None) ≡ []
none_run zero = refl
none_run (suc n) = none_run n

-- no CPU has a run
no_inside : ℕ → List (Option Run)
no_inside sections = replicate sections None

runs_fresh : (count sections cpu : ℕ) → runs_in (get_or (replicate count (no_inside sections)) cpu []) ≡ []
unfolding no_inside
runs_fresh count sections cpu = elim (cases_lt cpu count) [
  | inl l ↦ rw (get_or-replicate {A = List (Option Run)} count cpu (no_inside sections) [] l) (none_run sections)
  | inr past ↦ rw (get_or_past (replicate {A = List (Option Run)} count (no_inside sections)) cpu [] (omega (arith, length-replicate {A = List (Option Run)} count (no_inside sections)))) refl
]

empty_slot : (sections section : ℕ) → run_at (no_inside sections) section ≡ None
unfolding no_inside
empty_slot sections section = elim (cases_lt section sections) [
  | inl below ↦ get_or-replicate {A = Option Run} sections section None None below
  | inr past ↦ get_or_past (replicate {A = Option Run} sections None) section None (omega (arith, length-replicate {A = Option Run} sections None))
]

no_slot : (count sections cpu section : ℕ) → run_at (get_or (replicate count (no_inside sections)) cpu []) section ≡ None
no_slot count sections cpu section = elim (cases_lt cpu count) [
  | inl l ↦ rw (get_or-replicate {A = List (Option Run)} count cpu (no_inside sections) [] l) (empty_slot sections section)
  | inr past ↦ rw (get_or_past (replicate {A = List (Option Run)} count (no_inside sections)) cpu [] (omega (arith, length-replicate {A = List (Option Run)} count (no_inside sections)))) refl
]

modules_fresh : (k : Shape) (sections : List Section) → IsChecked k → AreModules k sections (fresh_modules k (length sections))
unfolding no_inside
modules_fresh k sections checked = record {
  cpus = length-fresh k.cpus (replicate (length sections) None);
  slots = λ cpu below. rw (get_or-replicate k.cpus cpu (replicate {A = Option Run} (length sections) None) [] below) (length-fresh (length sections) None);
  runs = λ cpu section r is. let none = no_slot k.cpus (length sections) cpu section in cc;
  list = record {
    book = let a = checked.few_tags in let b = checked.few_kernel_tags in record {
      few = omega arith;
      above_zero = λ i d l. absurd (omega arith);
      rising = λ i j d l m. absurd (omega arith);
      some_tags = λ i d l. absurd (omega arith);
      in_area = λ i d l. absurd (omega arith);
      apart = λ i j d l m. absurd (omega arith);
      loaded_once = λ i j d l m. absurd (omega arith);
      small = omega arith;
    };
    given = λ i d l. absurd (omega arith);
    last = omega arith;
    few = omega arith;
  };
  first = refl;
  tags = omega (arith, checked.few_kernel_tags);
  entries = λ i d l. absurd (omega arith);
  ops = tt;
  some_op = λ on. cc;
  goes_on = λ on. cc;
  at_rest = λ off. refl;
}

pub core_fresh : (k : Shape) (sections : List Section) (m : Machine) (words : List (List ℕ)) (ms : ModuleTable) → IsChecked k → SectionsFitShape k sections
    → m ≡ fresh_machine k.cpus → words ≡ replicate k.cpus (replicate (2 * k.tags) 0) → ms ≡ fresh_modules k (length sections) → IsCore (record { shape = k; sections = sections; machine = m; words = words; modules = ms })
unfolding state_with no_inside no_places
core_fresh k sections m words ms checked fit h o l = rw (h, o, l) (record {
  shape = checked;
  sections = fit;
  machine = record {
    hands = length-fresh k.cpus None;
    waiting = length-fresh k.cpus nothing_waits;
    places = length-fresh KEY_END held.None;
    ready = λ cpu below. ready_fresh k.cpus sections KEY_END cpu below;
    apart = λ i j key wi wj ne ri rj. no_reserve k.cpus i key wi ri;
  };
  words = length-fresh k.cpus (replicate (2 * k.tags) 0);
  own_words = λ cpu below. rw (get_or-replicate k.cpus cpu (replicate {A = ℕ} (2 * k.tags) 0) [] below) (length-fresh (2 * k.tags) 0);
  modules = modules_fresh k sections checked;
  safe =
      subst (λ (ps : List Part). Safe k (ps ++ (place_parts 0 (replicate KEY_END held.None) ++ Modules no_modules ∷ NextId 1 ∷ [])))
      (sym (cpu_parts-same 0 (replicate k.cpus None) (replicate k.cpus (replicate (2 * k.tags) 0)) (runs_of (fresh_modules k (length sections))) no_runs (λ j low. runs_fresh k.cpus (length sections) j)))
      (safe_fresh k checked KEY_END (omega arith));
})
  where
    no_reserve : (cpus i key : ℕ) → i < cpus → reserves key (get_or (replicate cpus nothing_waits) i nothing_waits) ≡ true → ⊥
    no_reserve cpus i key below h = let e = get_or-replicate cpus i nothing_waits nothing_waits below in let f : reserves key nothing_waits ≡ true = subst (λ (w : Waiting). reserves key w ≡ true) e h in cc
