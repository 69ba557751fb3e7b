-- A CPU that goes into a module and out of it: the list can count it, it is a step of the step rules, and the modules stay in their bounds.
use Rattle.std.specs.Prelude.{is_some}
use Rattle.std.proofs.Common.{◌≡◌, ◌≢◌, ℕ, ◌<◌, ◌==◌, List, [], ◌∷◌, ◌++◌, length, set, if◌then◌else◌, cond, inl, inr, refl, sym, ap, ◌∙◌, subst, arith, Bool, true, false, not, Option, Some, None}
use Rattle.std.proofs.lemmas.Bool.{cases_eq}
use Rattle.std.proofs.lemmas.List.{length-set, get_or-set_same, get_or-set_other}
use Rattle.std.proofs.lemmas.List.Elements.{All-contains, All-map, All-weaker}
use Rattle.std.proofs.lemmas.Option.{none-some, same_Some}
use Rattle.tag_model.specs.declared.shape.Shape.{Shape}
use Rattle.tag_model.specs.declared.state.Run.{Run}
use Rattle.tag_model.specs.Laws.{Safe}
use Rattle.tag_model.specs.declared.state.Sweep.{Sweep}
use Rattle.tag_model.specs.declared.state.Sweep.TheVariants as sweep
use Rattle.tag_model.specs.StepRules.{GivesRun, TakesRun}
use Rattle.core_steps.specs.Kinds.{StepKind}
use Rattle.core_steps.proofs.ByKind.{GoesBy, goes_with}
use Rattle.tag_model.specs.Reference.{is_settled}
use Rattle.tag_model.proofs.Steps.{safe-steps_with}
use Rattle.module_area.specs.declared.entry.Entry.{Entry}
use Rattle.module_area.specs.Area.{LiesIn}
use Rattle.module_area.specs.Entries.{entered, left as one_left}
use Rattle.core_list.specs.ListState.{ListState, IsList, entered_list, left_list, list_part, loaded_entry, run_of, with_changed}
use Rattle.core_list.proofs.Changes.{enters_run, leaves_run, row-enters, row-leaves}
use Rattle.core_list.proofs.Kept.{list_entered, list_left}
use Rattle.tag_section.specs.Section.{Section, tags_in}
use Rattle.cpu_ops.specs.declared.refused.StepRefused.TheVariants.{ListHeld, NotRunning, Inside, NotLoaded}
use Rattle.cpu_ops.specs.declared.step.WordStep.TheVariants.{GoIn, GoOut}
use Rattle.cpu_ops.specs.Machine.{hand_at, run_at, enter_refusal, leave_refusal}
use Rattle.module_ops.specs.Modules.{ModuleTable, goes_in, goes_out, inside_at, modules_after, scene_at, with_inside}
use Rattle.core_steps.specs.CoreState.{AreModules, CoreState, EntryFits, IsCore, RunFits, runs_in, runs_of, state_of, state_with, state_after}
use Rattle.module_ops.specs.Modules.{HasUserLeft, ListFits}
use Rattle.core_steps.proofs.InsideFacts.{IsInside, put_in, taken_out}
use Rattle.core_steps.proofs.RunsTold.{own_part, list_becomes, own_becomes, safe_after, run_entry, LoadedEntry, loaded_is, none_on, user_left, has_user}

-- ---- when a CPU may go in and out

pub record MayEnter (ms : ModuleTable) (cpu section : ℕ) : Type 0 where
  pub entry : Entry
  pub is : loaded_entry section ms.list ≡ Some entry
  pub outside : run_at (inside_at ms cpu) section ≡ None

pub may_enter : (ms : ModuleTable) (cpu section : ℕ) → enter_refusal (scene_at ms cpu) section ≡ None → MayEnter ms cpu section
may_enter ms cpu section none = free ms.manager.under_way none
  where
    slot : (e : Entry) → loaded_entry section ms.list ≡ Some e → (o : Option Run) → run_at (inside_at ms cpu) section ≡ o → (if is_some o then Some (Inside section) else None) ≡ None → MayEnter ms cpu section
    slot e is None outside none = record { entry = e; is = is; outside = outside }
    slot e is (Some r) outside none = absurd (cc)

    named : (o : Option Entry) → loaded_entry section ms.list ≡ o
        → (if not (is_some o) then Some (NotLoaded section) else (if is_some (run_at (inside_at ms cpu) section) then Some (Inside section) else None)) ≡ None → MayEnter ms cpu section
    named None is none = absurd (cc)
    named (Some e) is none = slot e is (run_at (inside_at ms cpu) section) refl none

    free : (held : Bool)
        → (if held then Some ListHeld else (if not (is_some (loaded_entry section ms.list)) then Some (NotLoaded section) else (if is_some (run_at (inside_at ms cpu) section) then Some (Inside section) else None))) ≡ None
        → MayEnter ms cpu section
    free true none = absurd (cc)
    free false none = named (loaded_entry section ms.list) refl none

pub may_leave : (ms : ModuleTable) (cpu section : ℕ) → leave_refusal (scene_at ms cpu) section ≡ None → IsInside (inside_at ms cpu) section
may_leave ms cpu section none = free ms.manager.under_way none
  where
    slot : (o : Option Run) → run_at (inside_at ms cpu) section ≡ o → (if not (is_some o) then Some (NotRunning section) else None) ≡ None → IsInside (inside_at ms cpu) section
    slot None is none = absurd (cc)
    slot (Some r) is none = record { run = r; is = is }

    free : (held : Bool) → (if held then Some ListHeld else (if not (is_some (run_at (inside_at ms cpu) section)) then Some (NotRunning section) else None)) ≡ None → IsInside (inside_at ms cpu) section
    free true none = absurd (cc)
    free false none = slot (run_at (inside_at ms cpu) section) refl none

-- the list can count the CPU that goes in, or out
pub in_fits : (s : CoreState) → IsCore s → (cpu : ℕ) → cpu < s.shape.cpus → (section : ℕ) → section < length s.sections → enter_refusal (scene_at s.modules cpu) section ≡ None → ListFits (GoIn section) s.modules cpu
in_fits s core cpu below section within none =
    let may = may_enter s.modules cpu section none in (
      omega (arith, core.modules.cpus),
      omega (arith, core.modules.slots cpu below),
      subst (λ (o : Option Entry). HasUserLeft s.modules.list o) (sym may.is) (user_left s core cpu below section may.entry may.is may.outside),
    )

pub out_fits : (s : CoreState) → IsCore s → (cpu : ℕ) → cpu < s.shape.cpus → (section : ℕ) → section < length s.sections → ListFits (GoOut section) s.modules cpu
out_fits s core cpu below section within = (omega (arith, core.modules.cpus), omega (arith, core.modules.slots cpu below), has_user s core cpu below section)

-- ---- a CPU's slots with one that is set

pub inside_here : (ms : ModuleTable) (cpu section : ℕ) (o : Option Run) (list : ListState) → cpu < length ms.inside → inside_at (with_inside ms cpu section o list) cpu ≡ set (inside_at ms cpu) section o
inside_here ms cpu section o list below = get_or-set_same ms.inside cpu (set (inside_at ms cpu) section o) [] below

pub inside_other : (ms : ModuleTable) (cpu section : ℕ) (o : Option Run) (list : ListState) (j : ℕ) → j ≢ cpu → inside_at (with_inside ms cpu section o list) j ≡ inside_at ms j
inside_other ms cpu section o list j apart = get_or-set_other ms.inside cpu j (set (inside_at ms cpu) section o) [] apart

-- ---- each is a step of the step rules

-- the CPU has its run from the list, on which it was on its way
in_by : (s : CoreState) → IsCore s → (cpu : ℕ) → cpu < s.shape.cpus → (section : ℕ) → section < length s.sections → (e : Entry) → loaded_entry section s.modules.list ≡ Some e → run_at (inside_at s.modules cpu) section ≡ None
    → (reads : ℕ) (after : Sweep) → GoesBy s.shape StepKind.Enter after (state_after reads s) (state_of reads s.machine s.words (goes_in s.modules cpu section (Some e)))
in_by s core cpu below section within e is none reads sweep_after =
    let ms = s.modules in
    let m = s.machine in
    let loaded = loaded_is section ms.list e core.modules.list.book is in
    let list = entered_list e.id ms.list in
    let new = with_inside ms cpu section (Some (run_of e)) list in
    let put = put_in (inside_at ms cpu) section (run_of e) (omega (arith, core.modules.slots cpu below)) none in
    let here : runs_of new cpu ≡ put.front ++ run_of e ∷ put.back = ap runs_in (inside_here ms cpu section (Some (run_of e)) list (omega (arith, core.modules.cpus))) ∙ put.all in
    let move : GivesRun (own_part m s.words cpu (runs_of ms cpu)) (own_part m s.words cpu (runs_of new cpu)) (list_part reads (run_of e ∷ []) list) (list_part reads [] list) = record {
      front = put.front;
      run = run_of e;
      back = put.back;
      ahead = [];
      behind = [];
      away = refl;
      first = none_on s core cpu below section e loaded none;
      had = put.others;
      cpu = ap (own_part m s.words cpu) here;
      list = refl;
    } in
    GoesBy.enters_cpu (record {
      mid = state_with reads (run_of e ∷ []) m s.words (runs_of ms) list;
      outside = own_part m s.words cpu (runs_of ms cpu);
      inside = own_part m s.words cpu (runs_of new cpu);
      before = list_part reads [] ms.list;
      entered = list_part reads (run_of e ∷ []) list;
      after = list_part reads [] list;
      enters = row-enters ms.list reads e.id e [] core.modules.list loaded.by_id loaded.loaded;
      enters_state = list_becomes reads m s.words (runs_of ms) [] (run_of e ∷ []) ms.list list.area;
      gives = move;
      gives_state = own_becomes reads m s.words cpu (omega (arith, core.machine.hands, core.words)) (omega (arith, core.machine.hands)) (runs_of ms) (runs_of new) (run_of e ∷ []) [] list
          (λ j apart. ap runs_in (inside_other ms cpu section (Some (run_of e)) list j apart));
      same_run = enters_run ms.list reads e.id e [] core.modules.list loaded.by_id loaded.loaded;
    }) refl

-- a CPU goes in
pub goes_in_row : (s : CoreState) → IsCore s → (cpu : ℕ) → cpu < s.shape.cpus → (section : ℕ) → section < length s.sections → enter_refusal (scene_at s.modules cpu) section ≡ None
    → (reads : ℕ) (after : Sweep) → GoesBy s.shape StepKind.Enter after (state_of reads s.machine s.words s.modules) (state_of reads s.machine s.words (modules_after (GoIn section) s.modules cpu))
goes_in_row s core cpu below section within free reads after =
    let may = may_enter s.modules cpu section free in
    subst (λ (o : Option Entry). GoesBy s.shape StepKind.Enter after (state_after reads s) (state_of reads s.machine s.words (goes_in s.modules cpu section o))) (sym may.is) (in_by s core cpu below section within may.entry may.is may.outside reads after)

pub goes_in_safe : (s : CoreState) → IsCore s → (cpu : ℕ) → cpu < s.shape.cpus → (section : ℕ) → section < length s.sections → enter_refusal (scene_at s.modules cpu) section ≡ None
    → (reads : ℕ) → Safe s.shape (state_of reads s.machine s.words (modules_after (GoIn section) s.modules cpu))
goes_in_safe s core cpu below section within free reads =
    safe-steps_with s.shape (state_after reads s) _ core.shape (goes_with s.shape StepKind.Enter sweep.None _ _ (goes_in_row s core cpu below section within free reads sweep.None)) (safe_after s core reads)

-- the CPU's run is on its way to the list, and ends there
out_by : (s : CoreState) → IsCore s → (cpu : ℕ) → cpu < s.shape.cpus → (section : ℕ) → section < length s.sections → (r : Run) → run_at (inside_at s.modules cpu) section ≡ Some r → hand_at s.machine cpu ≡ None
    → (reads : ℕ) (after : Sweep) → GoesBy s.shape StepKind.Leave after (state_after reads s) (state_of reads s.machine s.words (goes_out s.modules cpu section (Some r)))
out_by s core cpu below section within r is free reads sweep_after =
    let ms = s.modules in
    let m = s.machine in
    let own = run_entry s core cpu below section r is in
    let list = left_list r.id ms.list in
    let new = with_inside ms cpu section None list in
    let out = taken_out (inside_at ms cpu) section r is in
    let here : runs_of new cpu ≡ out.front ++ out.back = ap runs_in (inside_here ms cpu section None list (omega (arith, core.modules.cpus))) ∙ out.others in
    let move : TakesRun (own_part m s.words cpu (runs_of ms cpu)) (own_part m s.words cpu (runs_of new cpu)) (list_part reads [] ms.list) (list_part reads (r ∷ []) ms.list) = record {
      front = out.front;
      run = r;
      back = out.back;
      settled = ap is_settled free;
      has = out.all;
      cpu = ap (own_part m s.words cpu) here;
      list = refl;
    } in
    GoesBy.leaves_cpu (record {
      mid = state_with reads (r ∷ []) m s.words (runs_of new) ms.list;
      inside = own_part m s.words cpu (runs_of ms cpu);
      outside = own_part m s.words cpu (runs_of new cpu);
      before = list_part reads [] ms.list;
      leaving = list_part reads (r ∷ []) ms.list;
      after = list_part reads [] list;
      takes = move;
      takes_state = own_becomes reads m s.words cpu (omega (arith, core.machine.hands, core.words)) (omega (arith, core.machine.hands)) (runs_of ms) (runs_of new) [] (r ∷ []) ms.list
          (λ j apart. ap runs_in (inside_other ms cpu section None list j apart));
      leaves = row-leaves ms.list reads r.id own.entry r [] [] core.modules.list own.is (sym own.run);
      leaves_state = list_becomes reads m s.words (runs_of new) (r ∷ []) [] ms.list list.area;
      same_run = leaves_run ms.list reads r.id own.entry r [] [] core.modules.list own.is (sym own.run);
    }) refl

-- a CPU goes out
pub goes_out_row : (s : CoreState) → IsCore s → (cpu : ℕ) → cpu < s.shape.cpus → (section : ℕ) → section < length s.sections → leave_refusal (scene_at s.modules cpu) section ≡ None → hand_at s.machine cpu ≡ None
    → (reads : ℕ) (after : Sweep) → GoesBy s.shape StepKind.Leave after (state_of reads s.machine s.words s.modules) (state_of reads s.machine s.words (modules_after (GoOut section) s.modules cpu))
goes_out_row s core cpu below section within may_go free reads after =
    let may = may_leave s.modules cpu section may_go in
    subst (λ (o : Option Run). GoesBy s.shape StepKind.Leave after (state_after reads s) (state_of reads s.machine s.words (goes_out s.modules cpu section o))) (sym may.is) (out_by s core cpu below section within may.run may.is free reads after)

pub goes_out_safe : (s : CoreState) → IsCore s → (cpu : ℕ) → cpu < s.shape.cpus → (section : ℕ) → section < length s.sections → leave_refusal (scene_at s.modules cpu) section ≡ None → hand_at s.machine cpu ≡ None
    → (reads : ℕ) → Safe s.shape (state_of reads s.machine s.words (modules_after (GoOut section) s.modules cpu))
goes_out_safe s core cpu below section within may_go free reads =
    safe-steps_with s.shape (state_after reads s) _ core.shape (goes_with s.shape StepKind.Leave sweep.None _ _ (goes_out_row s core cpu below section within may_go free reads sweep.None)) (safe_after s core reads)

-- ---- the modules stay in their bounds

-- a run on the loaded entry of a section stands at its section
pub run_fits : (k : Shape) (sections : List Section) (ms : ModuleTable) → AreModules k sections ms → (section : ℕ) (e : Entry) → LoadedEntry section ms.list.area.entries e → RunFits k sections section (run_of e)
run_fits k sections ms ok section e loaded =
    let fits = All-contains (EntryFits sections) ms.list.area.entries e ok.entries loaded.there in
    let lies = All-contains (λ x. LiesIn ms.list.area x.start x.length) ms.list.area.entries e ok.list.book.in_area loaded.there in
    record {
      some_id = All-contains (λ x. 0 < x.id) ms.list.area.entries e ok.list.book.above_zero loaded.there;
      of_section = loaded.of_section;
      all_tags = fits.all_tags ∙ ap (tags_in sections) loaded.of_section;
      in_shape = omega (arith, lies, ok.tags);
    }

-- an entry with other users fits as it did
fits_changed : (sections : List Section) (id : ℕ) (change : Entry → Entry) → ((e : Entry) → EntryFits sections e → EntryFits sections (change e)) → (e : Entry) → EntryFits sections e → EntryFits sections (cond (e.id == id) (change e) e)
fits_changed sections id change keeps e fits = go (e.id == id)
  where
    go : (b : Bool) → EntryFits sections (cond b (change e) e)
    go true = keeps e fits
    go false = fits

-- one slot and the users of one entry change
modules_with : (k : Shape) (sections : List Section) (ms : ModuleTable) → AreModules k sections ms → (cpu : ℕ) → cpu < k.cpus → (section : ℕ) → section < length sections → (o : Option Run) → ((r : Run) → o ≡ Some r → RunFits k sections section r)
    → (id : ℕ) (change : Entry → Entry) → ((e : Entry) → EntryFits sections e → EntryFits sections (change e)) → IsList (with_changed id change ms.list)
    → AreModules k sections (with_inside ms cpu section o (with_changed id change ms.list))
modules_with k sections ms ok cpu below section within o fits id change keeps list_ok = record {
  cpus = omega (arith, length-set ms.inside cpu (set (inside_at ms cpu) section o), ok.cpus);
  slots = λ c h. elim (cases_eq c cpu) [
    | inl same ↦ subst (λ (x : ℕ). length (inside_at new x) ≡ length sections) (sym same) (ap length here ∙ (length-set (inside_at ms cpu) section o ∙ ok.slots cpu below))
    | inr apart ↦ ap length (inside_other ms cpu section o list c apart) ∙ ok.slots c h
  ];
  runs = λ c place r is. elim (cases_eq c cpu) [
    | inl same ↦ own place r (sym (ap (λ (row : List (Option Run)). run_at row place) here) ∙ (ap (λ (x : ℕ). run_at (inside_at new x) place) (sym same) ∙ is))
    | inr apart ↦ ok.runs c place r (sym (ap (λ (row : List (Option Run)). run_at row place) (inside_other ms cpu section o list c apart)) ∙ is)
  ];
  list = list_ok;
  first = ok.first;
  tags = ok.tags;
  entries = All-map (EntryFits sections) (λ e. cond (e.id == id) (change e) e) ms.list.area.entries
      (All-weaker (EntryFits sections) (λ e. EntryFits sections (cond (e.id == id) (change e) e)) (fits_changed sections id change keeps) ms.list.area.entries ok.entries);
  ops = ok.ops;
  some_op = ok.some_op;
  goes_on = ok.goes_on;
  at_rest = ok.at_rest;
}
  where
    list : ListState
    list = with_changed id change ms.list

    new : ModuleTable
    new = with_inside ms cpu section o list

    here : inside_at (with_inside ms cpu section o (with_changed id change ms.list)) cpu ≡ set (inside_at ms cpu) section o
    here = inside_here ms cpu section o (with_changed id change ms.list) (omega (arith, ok.cpus))

    own : (place : ℕ) (r : Run) → run_at (set (inside_at ms cpu) section o) place ≡ Some r → RunFits k sections place r
    own place r is = elim (cases_eq place section) [
      | inl same ↦
          let set_here : run_at (set (inside_at ms cpu) section o) section ≡ o = get_or-set_same (inside_at ms cpu) section o None (omega (arith, ok.slots cpu below)) in
          subst (λ (x : ℕ). RunFits k sections x r) (sym same) (fits r (sym set_here ∙ (ap (run_at (set (inside_at ms cpu) section o)) (sym same) ∙ is)))
      | inr apart ↦ ok.runs cpu place r (sym (get_or-set_other (inside_at ms cpu) section place o None apart) ∙ is)
    ]

pub goes_in_modules : (s : CoreState) → IsCore s → (cpu : ℕ) → cpu < s.shape.cpus → (section : ℕ) → section < length s.sections → enter_refusal (scene_at s.modules cpu) section ≡ None
    → AreModules s.shape s.sections (modules_after (GoIn section) s.modules cpu)
goes_in_modules s core cpu below section within free =
    let ms = s.modules in
    let may = may_enter ms cpu section free in
    let loaded = loaded_is section ms.list may.entry core.modules.list.book may.is in
    subst (λ (o : Option Entry). AreModules s.shape s.sections (goes_in ms cpu section o)) (sym may.is)
    (modules_with s.shape s.sections ms core.modules cpu below section within (Some (run_of may.entry))
    (λ r e. subst (λ (x : Run). RunFits s.shape s.sections section x) (same_Some (run_of may.entry) r e) (run_fits s.shape s.sections ms core.modules section may.entry loaded))
    may.entry.id entered (λ e fits. record { of_module = fits.of_module; all_tags = fits.all_tags }) (list_entered ms.list may.entry.id core.modules.list))

pub goes_out_modules : (s : CoreState) → IsCore s → (cpu : ℕ) → cpu < s.shape.cpus → (section : ℕ) → section < length s.sections → leave_refusal (scene_at s.modules cpu) section ≡ None
    → AreModules s.shape s.sections (modules_after (GoOut section) s.modules cpu)
goes_out_modules s core cpu below section within may_go =
    let ms = s.modules in
    let may = may_leave ms cpu section may_go in
    subst (λ (o : Option Run). AreModules s.shape s.sections (goes_out ms cpu section o)) (sym may.is)
    (modules_with s.shape s.sections ms core.modules cpu below section within None (λ r e. absurd (none-some r e)) may.run.id one_left (λ e fits. record { of_module = fits.of_module; all_tags = fits.all_tags })
    (list_left ms.list may.run.id core.modules.list))
