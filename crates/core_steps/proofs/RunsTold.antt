-- What a core's state tells of the runs in it: each is on a loaded entry, whose users are the runs on it.
use Rattle.std.proofs.Common.{◌≡◌, ◌≢◌, ℕ, zero, suc, ◌+◌, ◌<◌, ◌≤◌, ◌==◌, ◌&&◌, List, [], ◌∷◌, ◌++◌, length, get_or, set, map, sum_by, count_by, Contains, AllPairs, IsSomeAnd, if◌then◌else◌, inl, inr, refl, sym, ap, ◌∙◌, subst, arith, zero-add, add-zero, Bool, true, not, Option, Some, None, eq-eqb, eqb-true, ne_eqb}
use Rattle.std.specs.List.{list_any}
use Rattle.std.proofs.lemmas.Bool.{and_from, false≢true, cond-true, cond-false, cases_lt}
use Rattle.std.proofs.lemmas.List.Sums.{sum_by-cons}
use Rattle.std.proofs.lemmas.Option.{none-some, same_Some}
use Rattle.tag_model.specs.declared.state.CpuPart.{CpuPart}
use Rattle.tag_model.specs.declared.state.Hand.{Hand}
use Rattle.tag_model.specs.declared.state.Held.{Held}
use Rattle.tag_model.specs.declared.state.Part.{Part}
use Rattle.tag_model.specs.declared.state.Part.TheVariants.{Cpu, Place, Modules, NextId}
use Rattle.tag_model.specs.declared.state.Record.{Record}
use Rattle.tag_model.specs.declared.state.Run.{Run}
use Rattle.tag_model.specs.Laws.{Safe, is_loaded_as}
use Rattle.tag_model.specs.StepRules.{Becomes}
use Rattle.tag_model.specs.WordState.{runs_with, users_of}
use Rattle.tag_model.proofs.BookRows.{safe-reads}
use Rattle.tag_model.proofs.Found.{found, found_any, any_at, count_at}
use Rattle.tag_model.proofs.Ids.{field_here}
use Rattle.tag_model.proofs.ListRows.{list_with_cpu}
use Rattle.tag_model.proofs.Swept.{loaded_as_means, holds_first}
use Rattle.tag_model.proofs.Told.{run_is_loaded, one_run_each, users_are_runs}
use Rattle.module_area.specs.declared.book.TheConstants.{USER_LIMIT}
use Rattle.module_area.specs.declared.entry.Entry.{Entry}
use Rattle.module_area.specs.declared.entry.State.{State}
use Rattle.module_area.specs.declared.entry.State.TheVariants.{Loaded, Dead}
use Rattle.module_area.specs.Area.{Area, IsBook}
use Rattle.module_area.specs.Entries.{entry_of, is_loaded_as as is_loaded_section}
use Rattle.module_area.proofs.EntryLemmas.{find_some}
use Rattle.core_list.specs.ListState.{ListState, is_dead, list_part, loaded_entry, record_of, records_of, run_of}
use Rattle.core_list.proofs.Refused.{state_means}
use Rattle.core_list.proofs.Split.{the_entry, book_apart, book_entry_at, records_at}
use Rattle.cpu_ops.specs.Machine.{Machine, hand_at, run_at}
use Rattle.module_ops.specs.Modules.{inside_at}
use Rattle.core_steps.specs.CoreState.{CoreState, IsCore, cpu_part, cpu_parts, place_parts, list_parts, runs_of, state_with, state_after, word_state}
use Rattle.module_ops.specs.Modules.{HasUser, HasUserLeft, words_at}
use Rattle.core_steps.proofs.Parts.{becomes_list, becomes_cpu_list, length-cpu_parts, get_or-cpu_parts, cpu_parts-runs, sum_both, sum_two}
use Rattle.core_steps.proofs.InsideFacts.{taken_out, stands_at}

-- ---- the parts that a CPU and the module list are

abbrev pub own_part : Machine → List (List ℕ) → ℕ → List Run → CpuPart
own_part m words cpu runs = cpu_part cpu (hand_at m cpu) (words_at words cpu) runs

-- the list changes, and keeps its last id
pub list_becomes : (reads : ℕ) (m : Machine) (words : List (List ℕ)) (runs : ℕ → List Run) (away others : List Run) (list : ListState) (area : Area)
    → Becomes (Modules (list_part reads away list) ∷ []) (Modules (list_part reads others (record list { area = area })) ∷ []) (state_with reads away m words runs list) (state_with reads others m words runs (record list { area = area }))
unfolding state_with
list_becomes reads m words runs away others list area =
    becomes_list (cpu_parts 0 m.hands words runs) (place_parts 0 m.places) (NextId (list.last_id + 1) ∷ []) (Modules (list_part reads away list)) (Modules (list_part reads others (record list { area = area })))

module _ (reads : ℕ) (m : Machine) (words : List (List ℕ)) (cpu : ℕ) (len : length m.hands ≡ length words) (below : cpu < length m.hands) where
  own_stands : (runs : ℕ → List Run) → get_or (cpu_parts 0 m.hands words runs) cpu (Cpu (own_part m words cpu (runs cpu))) ≡ Cpu (own_part m words cpu (runs cpu))
  own_stands runs =
      get_or-cpu_parts 0 m.hands words runs cpu (Cpu (own_part m words cpu (runs cpu))) len below
      ∙ ap (λ (n : ℕ). Cpu (cpu_part n (hand_at m cpu) (words_at words cpu) (runs n))) (zero-add cpu)

  own_set : (runs others : ℕ → List Run) → ((j : ℕ) → j ≢ cpu → others j ≡ runs j) → cpu_parts 0 m.hands words others ≡ set (cpu_parts 0 m.hands words runs) cpu (Cpu (own_part m words cpu (others cpu)))
  own_set runs others same =
      cpu_parts-runs 0 m.hands words runs others cpu len below (λ j apart. same j (λ e. apart (e ∙ sym (zero-add cpu))))
      ∙ ap (λ (n : ℕ). set (cpu_parts 0 m.hands words runs) cpu (Cpu (cpu_part n (hand_at m cpu) (words_at words cpu) (others n)))) (zero-add cpu)

  -- the CPU's runs and those on their way change
  pub own_becomes : (runs others : ℕ → List Run) (away away_then : List Run) (list : ListState) → ((j : ℕ) → j ≢ cpu → others j ≡ runs j)
      → Becomes (Cpu (own_part m words cpu (runs cpu)) ∷ Modules (list_part reads away list) ∷ []) (Cpu (own_part m words cpu (others cpu)) ∷ Modules (list_part reads away_then list) ∷ [])
      (state_with reads away m words runs list) (state_with reads away_then m words others list)
  unfolding state_with
  own_becomes runs others away away_then list same =
      let old = Cpu (own_part m words cpu (runs cpu)) in
      let new = Cpu (own_part m words cpu (others cpu)) in
      let was = Modules (list_part reads away list) in
      let will = Modules (list_part reads away_then list) in
      let there = length-cpu_parts 0 m.hands words runs len in
      subst (λ (ps : List Part). Becomes (old ∷ was ∷ []) (new ∷ will ∷ []) (state_with reads away m words runs list) (ps ++ (place_parts 0 m.places ++ list_parts reads away_then list))) (sym (own_set runs others same))
      (becomes_cpu_list (cpu_parts 0 m.hands words runs) (place_parts 0 m.places) (NextId (list.last_id + 1) ∷ []) cpu old new was will (omega arith) (own_stands runs))

-- ---- what a core's state tells

-- it is safe after however many reads
pub safe_after : (s : CoreState) → IsCore s → (reads : ℕ) → Safe s.shape (state_after reads s)
unfolding state_with
safe_after s core reads =
    let list = s.modules.list in
    safe-reads s.shape (list_part 0 [] list) reads (word_state s) (state_after reads s)
    (becomes_list (cpu_parts 0 s.machine.hands s.words (runs_of s.modules)) (place_parts 0 s.machine.places) (NextId (list.last_id + 1) ∷ []) (Modules (list_part 0 [] list)) (Modules (list_part reads [] list))) core.safe

-- the loaded entry that a run is on
pub record EntryOfRun (list : ListState) (r : Run) : Type 0 where
  pub entry : Entry
  pub is : entry_of list.area.entries r.id ≡ Some entry
  pub loaded : entry.state ≡ Loaded
  pub run : run_of entry ≡ r

not_dead : (state : State) → not (is_dead state) ≡ true → state ≡ Loaded
not_dead Loaded e = refl
not_dead Dead e = absurd (false≢true e)

run_from : ℕ → ℕ → ℕ → ℕ → Run
run_from id section start length = record { id = id; section = section; start = start; length = length }

same_fields : (r : Run) (id section start length : ℕ) → id ≡ r.id → section ≡ r.section → start ≡ r.start → length ≡ r.length → run_from id section start length ≡ r
unfolding run_from
same_fields r id section start length a b c d =
    ap (λ x. run_from x section start length) a ∙ (ap (λ x. run_from r.id x start length) b ∙ (ap (λ x. run_from r.id r.section x length) c ∙ ap (λ x. run_from r.id r.section r.start x) d))

-- the CPU and the module list stand in the state
pub of_cpu : (s : CoreState) → IsCore s → (cpu : ℕ) → cpu < s.shape.cpus
    → Becomes (Cpu (own_part s.machine s.words cpu (runs_of s.modules cpu)) ∷ Modules (list_part 0 [] s.modules.list) ∷ []) (Cpu (own_part s.machine s.words cpu (runs_of s.modules cpu)) ∷ Modules (list_part 0 [] s.modules.list) ∷ [])
    (word_state s) (word_state s)
of_cpu s core cpu below = own_becomes 0 s.machine s.words cpu (omega (arith, core.machine.hands, core.words)) (omega (arith, core.machine.hands)) (runs_of s.modules) (runs_of s.modules) [] [] s.modules.list (λ j apart. refl)

pub run_entry : (s : CoreState) → IsCore s → (cpu : ℕ) → cpu < s.shape.cpus → (section : ℕ) (r : Run) → run_at (inside_at s.modules cpu) section ≡ Some r → EntryOfRun s.modules.list r
unfolding run_from
run_entry s core cpu below section r is =
    let list = s.modules.list in
    let at = taken_out (inside_at s.modules cpu) section r is in
    let loaded = run_is_loaded s.shape (own_part s.machine s.words cpu (runs_of s.modules cpu)) (list_part 0 [] list) _ (word_state s) (word_state s) (of_cpu s core cpu below) core.safe at.front r at.back at.all in
    let f = found_any (is_loaded_as r) (records_of list) loaded in
    let test : Record → Bool = λ x. (x.id == r.id) && is_loaded_as r x in
    let there : list_any test (records_of list) ≡ true =
    subst (λ (rs : List Record). list_any test rs ≡ true) (sym f.is) (any_at test f.front f.item f.back (and_from _ _ (eq-eqb f.item.id r.id (loaded_as_means r f.item f.passes).id) f.passes)) in
    let one = the_entry list.area r.id (is_loaded_as r) core.modules.list.book there in
    let like = loaded_as_means r (record_of one.entry) one.passes in
    record { entry = one.entry; is = one.is; loaded = not_dead one.entry.state like.loaded; run = same_fields r one.entry.id one.entry.section one.entry.start one.entry.length like.id like.section like.start like.length }

-- ---- the loaded entry of a section

entry_by_place : (entries : List Entry) (k : ℕ) (e : Entry) → AllPairs (λ one other. one.id < other.id) entries → k < length entries → get_or entries k e ≡ e → entry_of entries e.id ≡ Some e
entry_by_place [] k e rising h is = absurd (omega arith)
entry_by_place (x ∷ xs) zero e rising h is = cond-true (x.id == e.id) (Some x) (entry_of xs e.id) (eq-eqb x.id e.id (ap (λ (y : Entry). y.id) is)) ∙ ap (λ (y : Entry). Some y) is
entry_by_place (x ∷ xs) (suc k) e rising h is =
    let later = entry_by_place xs k e (λ i j d less inside. rising (suc i) (suc j) d (omega (arith, less)) (omega (arith, inside))) (omega arith) is in
    let above : x.id < e.id = subst (λ (y : Entry). x.id < y.id) is (rising 0 (suc k) e (omega arith) (omega arith)) in
    cond-false (x.id == e.id) (Some x) (entry_of xs e.id) (ne_eqb x.id e.id (λ same. omega (arith, above))) ∙ later

-- it stands among the entries, is the one of its id, is loaded, and is of the section
pub record LoadedEntry (section : ℕ) (entries : List Entry) (e : Entry) : Type 0 where
  pub there : Contains entries e
  pub by_id : entry_of entries e.id ≡ Some e
  pub loaded : e.state ≡ Loaded
  pub of_section : e.section ≡ section

pub loaded_is : (section : ℕ) (list : ListState) (e : Entry) → IsBook list.area → loaded_entry section list ≡ Some e → LoadedEntry section list.area.entries e
loaded_is section list e book is =
    let f = find_some (is_loaded_section section) list.area.entries e is in
    let means = state_means e.state e.section section f.1 in
    record { there = f.0; by_id = entry_by_place list.area.entries f.0.0 e book.rising f.0.1 f.0.2; loaded = means.0; of_section = means.1 }

-- ---- the users of a module are the runs on it

runs_in_places : (test : Run → Bool) (n : ℕ) (places : List Held) → sum_by (runs_with test) (place_parts n places) ≡ 0
runs_in_places test n [] = refl
runs_in_places test n (x ∷ places) = omega (arith, sum_by-cons (runs_with test) (Place n x) (place_parts (n + 1) places), runs_in_places test (n + 1) places)

-- no run is on its way, so all are the CPUs'
runs_of_cpus : (test : Run → Bool) (m : Machine) (words : List (List ℕ)) (runs : ℕ → List Run) (list : ListState) → sum_by (runs_with test) (state_with 0 [] m words runs list) ≡ sum_by (runs_with test) (cpu_parts 0 m.hands words runs)
unfolding state_with
runs_of_cpus test m words runs list =
    let f = runs_with test in
    omega (
      arith,
      sum_both f (cpu_parts 0 m.hands words runs) (place_parts 0 m.places ++ list_parts 0 [] list),
      sum_both f (place_parts 0 m.places) (list_parts 0 [] list),
      sum_two f (Modules (list_part 0 [] list)) (NextId (list.last_id + 1)),
      runs_in_places test 0 m.places,
    )

-- where each CPU has at most one run that passes, there are at most as many as CPUs
few_runs : (test : Run → Bool) (n : ℕ) (hands : List (Option Hand)) (words : List (List ℕ)) (runs : ℕ → List Run) → length hands ≡ length words
    → ((j : ℕ) → n ≤ j → j < n + length hands → count_by test (runs j) ≤ 1) → sum_by (runs_with test) (cpu_parts n hands words runs) ≤ length hands
few_runs test n [] words runs len one = omega arith
few_runs test n (h ∷ hands) [] runs len one = absurd (omega arith)
few_runs test n (h ∷ hands) (w ∷ words) runs len one =
    let later = few_runs test (n + 1) hands words runs (omega arith) (λ j from to. one j (omega arith) (omega arith)) in
    omega (arith, later, one n (omega arith) (omega arith), sum_by-cons (runs_with test) (Cpu (cpu_part n h w (runs n))) (cpu_parts (n + 1) hands words runs))

-- and fewer where one CPU has none
fewer_runs : (test : Run → Bool) (n : ℕ) (hands : List (Option Hand)) (words : List (List ℕ)) (runs : ℕ → List Run) (i : ℕ) → length hands ≡ length words
    → ((j : ℕ) → n ≤ j → j < n + length hands → count_by test (runs j) ≤ 1) → i < length hands → count_by test (runs (n + i)) ≡ 0 → sum_by (runs_with test) (cpu_parts n hands words runs) < length hands
fewer_runs test n [] words runs i len one h none = absurd (omega arith)
fewer_runs test n (x ∷ hands) [] runs i len one h none = absurd (omega arith)
fewer_runs test n (x ∷ hands) (w ∷ words) runs zero len one h none =
    let later = few_runs test (n + 1) hands words runs (omega arith) (λ j from to. one j (omega arith) (omega arith)) in
    let here : count_by test (runs n) ≡ 0 = rw (sym (add-zero n)) none in
    omega (arith, later, here, sum_by-cons (runs_with test) (Cpu (cpu_part n x w (runs n))) (cpu_parts (n + 1) hands words runs))
fewer_runs test n (x ∷ hands) (w ∷ words) runs (suc i) len one h none =
    let place : n + suc i ≡ n + 1 + i = omega arith in
    let later = fewer_runs test (n + 1) hands words runs i (omega arith) (λ j from to. one j (omega arith) (omega arith)) (omega arith) (subst (λ (j : ℕ). count_by test (runs j) ≡ 0) place none) in
    omega (arith, later, one n (omega arith) (omega arith), sum_by-cons (runs_with test) (Cpu (cpu_part n x w (runs n))) (cpu_parts (n + 1) hands words runs))

users_at : (list : ListState) (id : ℕ) (e : Entry) → IsBook list.area → entry_of list.area.entries id ≡ Some e → users_of id (Modules (list_part 0 [] list)) ≡ e.users
users_at list id e book found =
    let at = book_entry_at list.area id e book found in
    let stand = records_at list.area.entries id e at in
    let one = subst (λ (rs : List Record). count_by (λ (r : Record). r.id == id) rs ≤ 1) stand (book_apart list.area book id) in
    subst (λ (rs : List Record). sum_by (λ (r : Record). if r.id == id then r.users else 0) rs ≡ e.users) (sym stand) (field_here (λ r. r.users) (map record_of at.front) (record_of e) (map record_of at.back) id at.same_id one)

-- each CPU has at most one run on an id
one_each : (s : CoreState) → IsCore s → (cpu : ℕ) → cpu < s.shape.cpus → (id : ℕ) → count_by (λ (r : Run). r.id == id) (runs_of s.modules cpu) ≤ 1
one_each s core cpu below id = one_run_each s.shape (own_part s.machine s.words cpu (runs_of s.modules cpu)) _ _ (word_state s) (word_state s) (of_cpu s core cpu below) core.safe id

-- the CPU has no run on the module of a section where it has none
pub none_on : (s : CoreState) → IsCore s → (cpu : ℕ) → cpu < s.shape.cpus → (section : ℕ) (e : Entry) → LoadedEntry section s.modules.list.area.entries e → run_at (inside_at s.modules cpu) section ≡ None
    → count_by (λ (r : Run). r.id == e.id) (runs_of s.modules cpu) ≡ 0
none_on s core cpu below section e loaded none = elim (cases_lt 0 (count_by (λ (r : Run). r.id == e.id) (runs_of s.modules cpu))) [
  | inl some ↦
      let f = found (λ (r : Run). r.id == e.id) (runs_of s.modules cpu) some in
      let at = stands_at (inside_at s.modules cpu) f.front f.item f.back f.is in
      let own = run_entry s core cpu below at.section f.item at.is in
      let same_id : f.item.id ≡ e.id = eqb-true f.item.id e.id f.passes in
      let same : own.entry ≡ e = same_Some own.entry e (sym own.is ∙ (ap (entry_of s.modules.list.area.entries) same_id ∙ loaded.by_id)) in
      let of_slot : f.item.section ≡ at.section = (core.modules.runs cpu at.section f.item at.is).of_section in
      let of_module : f.item.section ≡ section = sym (ap (λ (r : Run). r.section) own.run) ∙ (ap (λ (x : Entry). x.section) same ∙ loaded.of_section) in
      let place : at.section ≡ section = sym of_slot ∙ of_module in
      absurd (none-some f.item (sym none ∙ (ap (run_at (inside_at s.modules cpu)) (sym place) ∙ at.is)))
  | inr few ↦ omega arith
]

users_are : (s : CoreState) → IsCore s → (cpu : ℕ) → cpu < s.shape.cpus → (id : ℕ) (e : Entry) → entry_of s.modules.list.area.entries id ≡ Some e
    → sum_by (runs_with (λ r. r.id == id)) (cpu_parts 0 s.machine.hands s.words (runs_of s.modules)) ≡ e.users
users_are s core cpu below id e found =
    let c = own_part s.machine s.words cpu (runs_of s.modules cpu) in
    let l = list_part 0 [] s.modules.list in
    sym (runs_of_cpus (λ r. r.id == id) s.machine s.words (runs_of s.modules) s.modules.list)
    ∙ (users_are_runs s.shape l (Cpu c ∷ Modules l ∷ []) _ (word_state s) (word_state s) (list_with_cpu c l) (of_cpu s core cpu below) core.safe id ∙ users_at s.modules.list id e core.modules.list.book found)

-- the module that is entered can have one user more
pub user_left : (s : CoreState) → IsCore s → (cpu : ℕ) → cpu < s.shape.cpus → (section : ℕ) (e : Entry) → loaded_entry section s.modules.list ≡ Some e → run_at (inside_at s.modules cpu) section ≡ None
    → HasUserLeft s.modules.list (Some e)
user_left s core cpu below section e is none =
    let loaded = loaded_is section s.modules.list e core.modules.list.book is in
    let fewer = fewer_runs (λ r. r.id == e.id) 0 s.machine.hands s.words (runs_of s.modules) cpu (omega (arith, core.machine.hands, core.words))
    (λ j from to. one_each s core j (omega (arith, core.machine.hands)) e.id) (omega (arith, core.machine.hands)) (rw (zero-add cpu) (none_on s core cpu below section e loaded none)) in
    let few : e.users < USER_LIMIT = omega (arith, fewer, users_are s core cpu below e.id e loaded.by_id, core.machine.hands, core.shape.few_cpus) in
    subst (λ (o : Option Entry). IsSomeAnd o (λ entry. (entry.state ≡ Loaded) × (entry.users < USER_LIMIT))) (sym loaded.by_id) (loaded.loaded, few)

-- the module of a run has a user
pub run_has_user : (s : CoreState) → IsCore s → (cpu : ℕ) → cpu < s.shape.cpus → (section : ℕ) (r : Run) → run_at (inside_at s.modules cpu) section ≡ Some r → HasUser s.modules.list (Some r)
run_has_user s core cpu below section r is =
    let own = run_entry s core cpu below section r is in
    let at = taken_out (inside_at s.modules cpu) section r is in
    let here : 0 < count_by (λ (x : Run). x.id == r.id) (runs_of s.modules cpu) =
    subst (λ (rs : List Run). 0 < count_by (λ (x : Run). x.id == r.id) rs) (sym at.all) (count_at (λ (x : Run). x.id == r.id) at.front r at.back (eq-eqb r.id r.id refl)) in
    let c = own_part s.machine s.words cpu (runs_of s.modules cpu) in
    let held = holds_first (Cpu c) _ _ (word_state s) (word_state s) (of_cpu s core cpu below) (runs_with (λ x. x.id == r.id)) in
    let all = runs_of_cpus (λ x. x.id == r.id) s.machine s.words (runs_of s.modules) s.modules.list in
    let some : 0 < own.entry.users = omega (arith, here, held, all, users_are s core cpu below r.id own.entry own.is) in
    subst (λ (o : Option Entry). IsSomeAnd o (λ entry. 0 < entry.users)) (sym own.is) some

pub has_user : (s : CoreState) → IsCore s → (cpu : ℕ) → cpu < s.shape.cpus → (section : ℕ) → HasUser s.modules.list (run_at (inside_at s.modules cpu) section)
has_user s core cpu below section = go (run_at (inside_at s.modules cpu) section) refl
  where
    go : (o : Option Run) → run_at (inside_at s.modules cpu) section ≡ o → HasUser s.modules.list o
    go None is = tt
    go (Some r) is = run_has_user s core cpu below section r is
