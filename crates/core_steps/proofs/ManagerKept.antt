-- A kept range is told exactly where the last CPU's word is read and the sum isn't 0; and a module that is gone was told as released.
use Rattle.std.proofs.Common.{◌≡◌, ◌≢◌, ℕ, ◌+◌, ◌-◌, ◌≤◌, ◌==◌, ◌&&◌, nat_lt, inl, inr, List, [], ◌∷◌, ◌++◌, refl, sym, ap, ◌∙◌, subst, arith, Bool, true, false, not, cond, Option, Some, None, ne_eqb, le-ltb, eqb-true, eq-eqb}
use Rattle.std.specs.Prelude.{slice_get}
use Rattle.std.proofs.lemmas.Bool.{and_parts, cases_eq}
use Rattle.std.proofs.lemmas.Bool.Decides.{nat_tests}
use Rattle.tag_model.specs.declared.state.Kind.{Kind}
use Rattle.tag_model.specs.declared.state.Reader.{Reader}
use Rattle.tag_model.specs.declared.state.Run.{Run}
use Rattle.tag_model.specs.declared.state.Stop.{Stop}
use Rattle.tag_model.specs.declared.state.Sweep.{Sweep}
use Rattle.tag_model.specs.declared.state.Sweep.TheVariants as sweep
use Rattle.tag_model.specs.Laws.{sweep_fits}
use Rattle.tag_model.specs.StepRules.{stop_after}
use Rattle.tag_model.proofs.Lists.{in_range_means}
use Rattle.tag_model.proofs.ScanRow.{reading_fits}
use Rattle.module_area.specs.declared.entry.Entry.{Entry}
use Rattle.module_area.specs.Entries.{entered, entry_of, kept, left as one_left, with_entry, without_entry}
use Rattle.core_list.specs.ListState.{found_at, loaded_entry, next_of, records_of, released, released_at, scanned_at, section_in, start_in, sum_read}
use Rattle.cpu_ops.specs.declared.op.CpuOp.{CpuOp}
use Rattle.cpu_ops.specs.declared.step.WordStep.{WordStep}
use Rattle.cpu_ops.specs.declared.step.WordStep.TheVariants.{BeginAllocation, AddBytes, AddCall, SubtractBytes, SubtractCall, Write, GoIn, GoOut}
use Rattle.cpu_ops.specs.Machine.{hand_at, run_at, step_of, waiting_at}
use Rattle.module_ops.specs.declared.event.Cause.{Cause}
use Rattle.module_ops.specs.declared.event.Event.{Event}
use Rattle.module_ops.specs.declared.event.Event.TheVariants.{Stepped, Released, Kept}
use Rattle.module_ops.specs.declared.op.ManagerOp.{ManagerOp}
use Rattle.module_ops.specs.Modules.{Managing, ModuleTable, cause_of, event_of_sweep, goes_in, goes_out, inside_at, kept_by, manager_event, manager_refusal, manager_refusal_in, modules_after, reads_in, reads_next, word_read}
use Rattle.module_ops.proofs.ReadOn.{reads_at}
use Rattle.core_steps.specs.declared.op.Actor.TheVariants as actor
use Rattle.core_steps.specs.CoreState.{CoreState, IsCore, event_of, modules_stepped, refused, stepped}
use Rattle.core_steps.specs.Release.{IfKept, IsKept, TellsRelease}
use Rattle.core_steps.specs.Kinds.{StepKind}
use Rattle.core_steps.proofs.Managed.{Manages, sweep_told}
use Rattle.core_steps.proofs.ManagerRow.{managed_first}
use Rattle.core_steps.proofs.ManagerTold.{read_entry}

-- ---- what a kept range tells

kept_at : (s : CoreState) (left : List ℕ) (r : Reader) (by : Cause) → IsCore s → reads_next s.modules ≡ Some r → sweep_fits s.shape (sweep.Reading left r) (records_of s.modules.list) ≡ true
    → IfKept s (kept_by by s.modules.list.area.entries (slice_get (stop_after s.shape r (sum_read r (word_read s.words r))) 0))
kept_at s left r by core reads fits = go (not (nat_lt (r.cpu + 1) s.shape.cpus) && not (sum == 0)) refl
  where
    sum : ℕ
    sum = sum_read r (word_read s.words r)

    go : (b : Bool) → (not (nat_lt (r.cpu + 1) s.shape.cpus) && not (sum_read r (word_read s.words r) == 0)) ≡ b
        → IfKept s (kept_by by s.modules.list.area.entries (slice_get (cond b (record { id = r.id; tag = r.tag; kind = r.pass; sum = sum_read r (word_read s.words r) } ∷ []) []) 0))
    go false is = tt
    go true is =
        let both = and_parts (not (nat_lt (r.cpu + 1) s.shape.cpus)) (not (sum_read r (word_read s.words r) == 0)) is in
        let one = read_entry s left r core fits in
        let range = in_range_means one.entry.start one.entry.length r.tag one.passes in
        let within = (reading_fits s.shape left r (records_of s.modules.list) fits).cpu in
        let section : section_in (entry_of s.modules.list.area.entries r.id) ≡ one.entry.section = ap section_in one.is in
        let start : start_in (entry_of s.modules.list.area.entries r.id) ≡ one.entry.start = ap start_in one.is in
        record {
          reader = r;
          entry = one.entry;
          reads = reads;
          last_cpu = (let past : s.shape.cpus ≤ r.cpu + 1 = grind (arith, nat_tests) in omega (arith, within));
          of_kind = refl;
          of_tag = omega (arith, range.0, start);
          listed = one.is;
          of_section = sym section;
          total = refl;
          some = λ none. (let zero_sum : (sum_read r (word_read s.words r) == 0) ≡ true = eq-eqb (sum_read r (word_read s.words r)) 0 none in absurd (let bad : not true ≡ true = subst (λ b. not b ≡ true) zero_sum both.1 in cc));
        }

-- a step of a sweep
sweep_keeps : (s : CoreState) (by : Cause) (x : Sweep) → IsCore s → ((r : Reader) (left : List ℕ) → x ≡ sweep.Reading left r → reads_next s.modules ≡ Some r) → sweep_fits s.shape x (records_of s.modules.list) ≡ true → s.modules.list.sweep ≡ x
    → IfKept s (event_of_sweep s.shape s.words s.modules.list by (next_of x))
sweep_keeps s by sweep.None core reads fits is = tt
sweep_keeps s by (sweep.Done []) core reads fits is = tt
sweep_keeps s by (sweep.Done (id ∷ left)) core reads fits is = tt
sweep_keeps s by (sweep.Reading left r) core reads fits is =
    subst (λ (x : Sweep). IfKept s (kept_by by s.modules.list.area.entries (found_at s.shape (word_read s.words r) x))) (sym is)
    (kept_at s left r by core (reads r left refl) fits)

pub manager_keeps : (s : CoreState) → IsCore s → manager_refusal s.sections s.modules ≡ None → IfKept s (manager_event s.shape s.words s.modules)
manager_keeps s core none = go s.modules.manager.under_way refl
  where
    reading : (ops : List ManagerOp) (x : Sweep) (r : Reader) (left : List ℕ) → manager_refusal_in s.sections s.modules.list ops true ≡ None → x ≡ sweep.Reading left r → reads_in ops true (next_of x) ≡ Some r
    reading [] x r left free is = absurd (cc)
    reading (op ∷ ops) x r left free is = rw is refl

    go : (way : Bool) → s.modules.manager.under_way ≡ way → IfKept s (cond way (event_of_sweep s.shape s.words s.modules.list (cause_of s.modules.manager.ops) (next_of s.modules.list.sweep)) Stepped)
    go true way = sweep_keeps s (cause_of s.modules.manager.ops) s.modules.list.sweep core
        (λ r left is. ap (λ b. reads_in s.modules.manager.ops b (next_of s.modules.list.sweep)) way ∙ reading s.modules.manager.ops s.modules.list.sweep r left (subst (λ b. manager_refusal_in s.sections s.modules.list s.modules.manager.ops b ≡ None) way none) is)
        (sweep_told s core).0 refl
    go false way = tt

-- ---- and where it does

-- what the read finds
kept_stop : (s : CoreState) (section index : ℕ) (kind : Kind) (sum : ℕ) → (x : IsKept s section index kind sum) → (by : Cause)
    → kept_by by s.modules.list.area.entries (slice_get (stop_after s.shape x.reader (sum_read x.reader (word_read s.words x.reader))) 0) ≡ Kept section index kind sum by
kept_stop s section index kind sum x by =
    let r = x.reader in
    let last : nat_lt (r.cpu + 1) s.shape.cpus ≡ false = le-ltb (r.cpu + 1) s.shape.cpus (omega (arith, x.last_cpu)) in
    let some : (sum_read r (word_read s.words r) == 0) ≡ false = ne_eqb (sum_read r (word_read s.words r)) 0 (λ e. x.some (sym x.total ∙ e)) in
    let stop : Stop = record { id = r.id; tag = r.tag; kind = r.pass; sum = sum_read r (word_read s.words r) } in
    let one : slice_get (stop_after s.shape r (sum_read r (word_read s.words r))) 0 ≡ Some stop = rw (last, some) refl in
    let tag : r.tag - x.entry.start ≡ index = omega (arith, x.of_tag) in
    ap (kept_by by s.modules.list.area.entries) one
    ∙ (ap (λ (o : Option Entry). Kept (section_in o) (r.tag - start_in o) r.pass (sum_read r (word_read s.words r)) by) x.listed
    ∙ (ap (λ n. Kept n (r.tag - x.entry.start) r.pass (sum_read r (word_read s.words r)) by) x.of_section
    ∙ (ap (λ n. Kept section n r.pass (sum_read r (word_read s.words r)) by) tag
    ∙ (ap (λ k. Kept section index k (sum_read r (word_read s.words r)) by) x.of_kind
    ∙ ap (λ n. Kept section index kind n by) x.total))))

-- the manager's step isn't refused, and tells it
pub record ToldKept (s : CoreState) (section index : ℕ) (kind : Kind) (sum : ℕ) : Type 0 where
  pub free : refused s actor.Manager ≡ None
  pub told : event_of s actor.Manager ≡ Kept section index kind sum (cause_of s.modules.manager.ops)

pub told_kept : (s : CoreState) (section index : ℕ) (kind : Kind) (sum : ℕ) → IsKept s section index kind sum → ToldKept s section index kind sum
told_kept s section index kind sum x =
    let at = reads_at s.modules x.reader x.reads in
    let r = x.reader in
    let by = cause_of s.modules.manager.ops in
    let event : Bool → Sweep → Event = λ way sw. cond way (event_of_sweep s.shape s.words s.modules.list by (next_of sw)) Stepped in
    let way : s.modules.manager.under_way ≡ true = ap (λ (m : Managing). m.under_way) at.manager in
    record {
      free = ap (λ (m : Managing). manager_refusal_in s.sections s.modules.list m.ops m.under_way) at.manager;
      told =
          ap (λ b. event b s.modules.list.sweep) way
          ∙ (ap (event true) at.sweep
          ∙ (ap (λ (sw : Sweep). kept_by by s.modules.list.area.entries (found_at s.shape (word_read s.words r) sw)) at.sweep
          ∙ kept_stop s section index kind sum x by));
    }

-- ---- a module that is gone

changed_there : (i id : ℕ) (change : Entry → Entry) (es : List Entry) → ((e : Entry) → (change e).id ≡ e.id) → entry_of es id ≢ None → entry_of (with_entry i change es) id ≢ None
changed_there i id change [] same there = there
changed_there i id change (e ∷ es) same there = go (e.id == i) there (changed_there i id change es same)
  where
    go : (b : Bool) → cond (e.id == id) (Some e) (entry_of es id) ≢ None → (entry_of es id ≢ None → entry_of (with_entry i change es) id ≢ None) → entry_of (cond b (change e) e ∷ with_entry i change es) id ≢ None
    go true there later = here (e.id == id) (ap (λ n. n == id) (same e)) there
      where
        here : (b : Bool) → ((change e).id == id) ≡ b → cond b (Some e) (entry_of es id) ≢ None → cond ((change e).id == id) (Some (change e)) (entry_of (with_entry i change es) id) ≢ None
        here true is there none = absurd (let bad : cond true (Some (change e)) (entry_of (with_entry i change es) id) ≡ None = subst (λ b. cond b (Some (change e)) (entry_of (with_entry i change es) id) ≡ None) is none in cc)
        here false is there none = later there (subst (λ b. cond b (Some (change e)) (entry_of (with_entry i change es) id) ≡ None) is none)
    go false there later = here (e.id == id) there
      where
        here : (b : Bool) → cond b (Some e) (entry_of es id) ≢ None → cond b (Some e) (entry_of (with_entry i change es) id) ≢ None
        here true there = λ none. absurd (cc)
        here false there = later there

more_there : (id : ℕ) (es more : List Entry) → entry_of es id ≢ None → entry_of (es ++ more) id ≢ None
more_there id [] more there = absurd (there refl)
more_there id (e ∷ es) more there = go (e.id == id) there (more_there id es more)
  where
    go : (b : Bool) → cond b (Some e) (entry_of es id) ≢ None → (entry_of es id ≢ None → entry_of (es ++ more) id ≢ None) → cond b (Some e) (entry_of (es ++ more) id) ≢ None
    go true there later = λ none. absurd (cc)
    go false there later = later there

-- only the entry of the id goes
others_there : (gone id : ℕ) (es : List Entry) → id ≢ gone → entry_of es id ≢ None → entry_of (without_entry gone es) id ≢ None
others_there gone id [] ne there = there
others_there gone id (e ∷ es) ne there = go (e.id == gone) refl (e.id == id) refl there (others_there gone id es ne)
  where
    go : (b : Bool) → (e.id == gone) ≡ b → (c : Bool) → (e.id == id) ≡ c → cond c (Some e) (entry_of es id) ≢ None → (entry_of es id ≢ None → entry_of (without_entry gone es) id ≢ None) → entry_of (cond (not b) (e ∷ without_entry gone es) (without_entry gone es)) id ≢ None
    go true is true same there later = absurd (ne (sym (eqb-true e.id id same) ∙ eqb-true e.id gone is))
    go true is false same there later = later there
    go false is true same there later = λ none. absurd (let bad : cond true (Some e) (entry_of (without_entry gone es) id) ≡ None = subst (λ b. cond b (Some e) (entry_of (without_entry gone es) id) ≡ None) same none in cc)
    go false is false same there later = λ none. later there (subst (λ b. cond b (Some e) (entry_of (without_entry gone es) id) ≡ None) same none)

-- a CPU's step keeps all
step_there : (ms : ModuleTable) (cpu id : ℕ) (step : WordStep) → entry_of ms.list.area.entries id ≢ None → entry_of (modules_after step ms cpu).list.area.entries id ≢ None
step_there ms cpu id (BeginAllocation tag) there = there
step_there ms cpu id (AddBytes size) there = there
step_there ms cpu id AddCall there = there
step_there ms cpu id (SubtractBytes bytes) there = there
step_there ms cpu id SubtractCall there = there
step_there ms cpu id (Write key held next) there = there
step_there ms cpu id (GoIn section) there = go (loaded_entry section ms.list)
  where
    go : (o : Option Entry) → entry_of (goes_in ms cpu section o).list.area.entries id ≢ None
    go None = there
    go (Some e) = changed_there e.id id entered ms.list.area.entries (λ x. refl) there
step_there ms cpu id (GoOut section) there = go (run_at (inside_at ms cpu) section)
  where
    go : (o : Option Run) → entry_of (goes_out ms cpu section o).list.area.entries id ≢ None
    go None = there
    go (Some r) = changed_there r.id id one_left ms.list.area.entries (λ x. refl) there

pub cpu_there : (s : CoreState) (cpu id : ℕ) → entry_of s.modules.list.area.entries id ≢ None → entry_of (stepped s (actor.Cpu cpu)).modules.list.area.entries id ≢ None
cpu_there s cpu id there = go (waiting_at s.machine cpu).ops (waiting_at s.machine cpu).done
  where
    go : (ops : List CpuOp) (done : ℕ) → entry_of (modules_stepped s.machine s.modules cpu ops done).list.area.entries id ≢ None
    go [] done = there
    go (op ∷ ops) done = step_there s.modules cpu id (step_of op done (hand_at s.machine cpu) s.machine.places (inside_at s.modules cpu)) there

scan_same : (s : CoreState) (word : ℕ) (x : Sweep) → (scanned_at s.shape word s.modules.list x).area.entries ≡ s.modules.list.area.entries
scan_same s word sweep.None = refl
scan_same s word (sweep.Done left) = refl
scan_same s word (sweep.Reading left r) = refl

-- the manager's, all but the one that it releases
gone_after : (s : CoreState) → (op : ManagerOp) (ops : List ManagerOp) (kind : Option StepKind) (n : ℕ) (after : ModuleTable) → Manages s.shape s.sections s.words s.modules op ops kind n after
    → (id : ℕ) (e : Entry) → entry_of s.modules.list.area.entries id ≡ Some e → entry_of after.list.area.entries id ≡ None → TellsRelease e.section (event_of s actor.Manager)
gone_after s op ops kind n after (Manages.loads section starts is none) id e there gone = absurd (more_there id s.modules.list.area.entries _ (λ none. absurd (cc)) gone)
gone_after s op ops kind n after (Manages.marks_dead section e starts is unused) id found there gone = absurd (changed_there e.id id kept s.modules.list.area.entries (λ x. refl) (λ none. absurd (cc)) gone)
gone_after s op ops kind n after (Manages.sweeps starts) id e there gone = absurd (cc)
gone_after s op ops kind n after (Manages.scans left r goes is) id e there gone = absurd (let same = ap (λ es. entry_of es id) (scan_same s (word_read s.words r) s.modules.list.sweep) in cc)
gone_after s op ops kind n after (Manages.releases x left way is) id e there gone = elim (cases_eq id x) [
  | inl same ↦
      let by = cause_of s.modules.manager.ops in
      let event : Bool → Sweep → Event = λ b sw. cond b (event_of_sweep s.shape s.words s.modules.list by (next_of sw)) Stepped in
      let told : event_of s actor.Manager ≡ Released (section_in (entry_of s.modules.list.area.entries x)) by = ap (λ b. event b s.modules.list.sweep) way ∙ ap (event true) is in
      subst (TellsRelease e.section) (sym told) (ap section_in (ap (entry_of s.modules.list.area.entries) (sym same) ∙ there))
  | inr ne ↦
      let area : (released s.modules.list).area.entries ≡ without_entry x s.modules.list.area.entries = ap (λ sw. (released_at s.modules.list sw).area.entries) is in
      absurd (others_there x id s.modules.list.area.entries ne (λ none. absurd (cc)) (ap (λ es. entry_of es id) (sym area) ∙ gone))
]

pub manager_gone : (s : CoreState) → IsCore s → refused s actor.Manager ≡ None → (id : ℕ) (e : Entry) → entry_of s.modules.list.area.entries id ≡ Some e → entry_of (stepped s actor.Manager).modules.list.area.entries id ≡ None → TellsRelease e.section (event_of s actor.Manager)
manager_gone s core none id e there gone = let first = managed_first s core none in gone_after s first.op first.ops _ _ _ first.step id e there gone
