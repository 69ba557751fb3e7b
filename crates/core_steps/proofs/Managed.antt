-- What a core tells of its module list, and the kinds of the manager's step.
use Rattle.std.proofs.Common.{◌≡◌, ℕ, ◌+◌, ◌==◌, List, [], ◌∷◌, refl, sym, subst, Bool, true, false, cond, Option, Some, None, eqb-true}
use Rattle.std.specs.List.{AllByRecursion}
use Rattle.std.specs.Option.{option_map}
use Rattle.tag_model.specs.declared.shape.Shape.{Shape}
use Rattle.tag_model.specs.declared.state.Part.TheVariants.{Modules, NextId}
use Rattle.tag_model.specs.declared.state.Reader.{Reader}
use Rattle.tag_model.specs.declared.state.Run.{Run}
use Rattle.tag_model.specs.declared.state.Sweep.{Sweep}
use Rattle.tag_model.specs.declared.state.Sweep.TheVariants as sweep
use Rattle.tag_model.specs.Laws.{Safe, are_dead, sweep_fits}
use Rattle.tag_model.specs.StepRules.{Becomes}
use Rattle.tag_model.proofs.BookRows.{safe-reads}
use Rattle.tag_model.proofs.ListRows.{list_alone}
use Rattle.tag_model.proofs.Told.{sweep_in_bounds}
use Rattle.tag_section.specs.Section.{Section, tags_in}
use Rattle.module_area.specs.declared.book.AreaError.{AreaError}
use Rattle.module_area.specs.declared.entry.Entry.{Entry}
use Rattle.core_list.specs.ListState.{ListState, left_ids, list_part, records_of, dead_list, load_refusal, loaded, loaded_entry, next_of, released, scanned, swept_list}
use Rattle.core_list.proofs.Fits.{left_dead}
use Rattle.cpu_ops.specs.Machine.{Machine}
use Rattle.core_steps.specs.CoreState.{CoreState, IsCore, cpu_parts, place_parts, state_with}
use Rattle.module_ops.specs.Modules.{CanManage, IsManagerOp}
use Rattle.cpu_ops.specs.MayQueue.{IsModule}
use Rattle.module_ops.specs.declared.op.ManagerOp.{ManagerOp}
use Rattle.module_ops.specs.declared.op.ManagerOp.TheVariants.{Load, Unload, Clean}
use Rattle.cpu_ops.specs.declared.refused.StepRefused.{StepRefused}
use Rattle.module_ops.specs.Modules.{ModuleTable, begins_op, is_nothing, load_refused, managed, managed_by, manager_first, manager_reads, manager_refusal, manager_refusal_in, swept_on, unload_refused, unloads, word_read, words_read, sweep_goes}
use Rattle.core_steps.specs.Kinds.{StepKind, first_of, manager_kind, scan_of, sweep_step}
use Rattle.core_steps.proofs.Parts.{becomes_list}

-- ---- the count of reads

-- the list part changes, and gives no id
pub list_becomes : (from to : ℕ) (m : Machine) (words : List (List ℕ)) (runs : ℕ → List Run) (l n : ListState) → n.last_id ≡ l.last_id
    → Becomes (Modules (list_part from [] l) ∷ []) (Modules (list_part to [] n) ∷ []) (state_with from [] m words runs l) (state_with to [] m words runs n)
unfolding state_with
list_becomes from to m words runs l n same =
    rw same (becomes_list (cpu_parts 0 m.hands words runs) (place_parts 0 m.places) (NextId (l.last_id + 1) ∷ []) (Modules (list_part from [] l)) (Modules (list_part to [] n)))

state_counted : (k : Shape) (from to : ℕ) (m : Machine) (words : List (List ℕ)) (runs : ℕ → List Run) (list : ListState) → Safe k (state_with from [] m words runs list) → Safe k (state_with to [] m words runs list)
state_counted k from to m words runs list safe = safe-reads k (list_part from [] list) to _ _ (list_becomes from to m words runs list list refl) safe

-- the laws don't read how many words sweeps have read
pub state_reads : (k : Shape) (reads : ℕ) (m : Machine) (words : List (List ℕ)) (runs : ℕ → List Run) (list : ListState) → Safe k (state_with 0 [] m words runs list) → Safe k (state_with reads [] m words runs list)
state_reads k reads m words runs list safe = state_counted k 0 reads m words runs list safe

pub safe_unread : (k : Shape) (reads : ℕ) (m : Machine) (words : List (List ℕ)) (runs : ℕ → List Run) (list : ListState) → Safe k (state_with reads [] m words runs list) → Safe k (state_with 0 [] m words runs list)
safe_unread k reads m words runs list safe = state_counted k reads 0 m words runs list safe

-- ---- what a core's sweep is like

pub sweep_told : (s : CoreState) → IsCore s → (sweep_fits s.shape s.modules.list.sweep (records_of s.modules.list) ≡ true) × (are_dead (left_ids s.modules.list.sweep) (records_of s.modules.list) ≡ true)
sweep_told s core =
    let l = s.modules.list in
    let part = list_part 0 [] l in
    let fits = (sweep_in_bounds s.shape part (Modules part ∷ []) (Modules part ∷ []) _ _ (list_alone part) (list_becomes 0 0 s.machine s.words _ l l refl) core.safe).0 in
    (fits, left_dead s.shape l.sweep (records_of l) fits)

-- what the manager's next step reads is there
pub can_manage : (s : CoreState) → IsCore s → CanManage s.shape s.sections s.words s.modules
can_manage s core = record {
  checked = core.shape;
  ops = core.modules.ops;
  some_tag = core.sections.some_tag;
  cpus = core.words;
  own_words = core.own_words;
  area = core.modules.tags;
  sweep = (sweep_told s core).0;
}

-- ---- the kinds of the manager's step

-- what a step of the op, behind which these wait, makes of the modules, and how many words it reads
pub data Manages (k : Shape) (sections : List Section) (words : List (List ℕ)) (ms : ModuleTable) (op : ManagerOp) (ops : List ManagerOp) : Option StepKind → ℕ → ModuleTable → Type 0 where
  loads : (section : ℕ) → ms.manager.under_way ≡ false → IsModule sections section → load_refusal section (tags_in sections section) ms.list ≡ None
      → Manages k sections words ms op ops (Some StepKind.Load) 0 (record ms { list = loaded section (tags_in sections section) ms.list; manager = record { ops = ops; under_way = false } })
  marks_dead : (section : ℕ) (e : Entry) → ms.manager.under_way ≡ false → loaded_entry section ms.list ≡ Some e → e.users ≡ 0 → Manages k sections words ms op ops (Some StepKind.MarkDead) 0 (swept_on ms op ops (dead_list e.id ms.list))
  sweeps : ms.manager.under_way ≡ false → Manages k sections words ms op ops (Some StepKind.BeginSweep) 0 (swept_on ms op ops (swept_list ms.list))
  scans : (left : List ℕ) (r : Reader) → ms.manager.under_way ≡ true → ms.list.sweep ≡ sweep.Reading left r → Manages k sections words ms op ops (Some (scan_of r.pass)) 1 (swept_on ms op ops (scanned k (word_read words r) ms.list))
  releases : (id : ℕ) (left : List ℕ) → ms.manager.under_way ≡ true → ms.list.sweep ≡ sweep.Done (id ∷ left) → Manages k sections words ms op ops (Some StepKind.Release) 0 (swept_on ms op ops (released ms.list))

-- the first step of an op
none_refused : (section : ℕ) (o : Option AreaError) → option_map (load_refused section) o ≡ None → o ≡ None
none_refused section None none = refl
none_refused section (Some why) none = absurd (cc)

module _ (k : Shape) (sections : List Section) (words : List (List ℕ)) (ms : ModuleTable) (ops : List ManagerOp) (starts : ms.manager.under_way ≡ false) where
  unloads_loaded : (section : ℕ) (op : ManagerOp) (o : Option Entry) → loaded_entry section ms.list ≡ o → unload_refused section o ≡ None → Manages k sections words ms op ops (Some StepKind.MarkDead) 0 (unloads ms op ops o)
  unloads_loaded section op None is none = absurd (cc)
  unloads_loaded section op (Some e) is none = Manages.marks_dead section e starts is (unused (e.users == 0) refl none)
    where
      unused : (b : Bool) → (e.users == 0) ≡ b → cond b None (Some (StepRefused.Busy e.users)) ≡ None → e.users ≡ 0
      unused true zero none = eqb-true e.users 0 zero
      unused false some none = absurd (cc)

  begins : (op : ManagerOp) → IsManagerOp sections op → manager_first sections ms.list op ≡ None → Manages k sections words ms op ops (Some (first_of op)) 0 (begins_op sections ms op ops)
  begins (Load section) is none = Manages.loads section starts is (none_refused section _ none)
  begins (Unload section) is none = unloads_loaded section (Unload section) (loaded_entry section ms.list) refl none
  begins Clean is none = Manages.sweeps starts

-- the further steps
goes_on : (k : Shape) (sections : List Section) (words : List (List ℕ)) (ms : ModuleTable) (op : ManagerOp) (ops : List ManagerOp) → ms.manager.under_way ≡ true → (s : Sweep) → ms.list.sweep ≡ s → is_nothing (next_of s) ≡ false
    → Manages k sections words ms op ops (sweep_step (next_of s)) (words_read (next_of s)) (swept_on ms op ops (sweep_goes k words ms.list (next_of s)))
goes_on k sections words ms op ops way sweep.None is some = absurd (cc)
goes_on k sections words ms op ops way (sweep.Reading left r) is some = Manages.scans left r way is
goes_on k sections words ms op ops way (sweep.Done []) is some = absurd (cc)
goes_on k sections words ms op ops way (sweep.Done (id ∷ left)) is some = Manages.releases id left way is

-- the manager's step is of one of these kinds
pub record ManagesFirst (k : Shape) (sections : List Section) (words : List (List ℕ)) (ms : ModuleTable) : Type 0 where
  pub op : ManagerOp
  pub ops : List ManagerOp
  pub is : ms.manager.ops ≡ op ∷ ops
  pub step : Manages k sections words ms op ops (manager_kind ms.manager.ops ms.manager.under_way (next_of ms.list.sweep)) (manager_reads ms) (managed k sections words ms)

pub manages : (k : Shape) (sections : List Section) (words : List (List ℕ)) (ms : ModuleTable) → AllByRecursion (IsManagerOp sections) ms.manager.ops → (ms.manager.under_way ≡ true → is_nothing (next_of ms.list.sweep) ≡ false)
    → manager_refusal sections ms ≡ None → ManagesFirst k sections words ms
manages k sections words ms are on none = by_ops ms.manager.ops refl are none
  where
    by_way : (op : ManagerOp) (ops : List ManagerOp) → IsManagerOp sections op → (way : Bool) → ms.manager.under_way ≡ way → cond way None (manager_first sections ms.list op) ≡ None
        → Manages k sections words ms op ops (manager_kind (op ∷ ops) way (next_of ms.list.sweep)) (cond way (words_read (next_of ms.list.sweep)) 0) (managed_by k sections words ms (op ∷ ops) way)
    by_way op ops is true way none = goes_on k sections words ms op ops way ms.list.sweep refl (on way)
    by_way op ops is false way none = begins k sections words ms ops way op is none

    by_ops : (ops : List ManagerOp) → ms.manager.ops ≡ ops → AllByRecursion (IsManagerOp sections) ops → manager_refusal_in sections ms.list ops ms.manager.under_way ≡ None → ManagesFirst k sections words ms
    by_ops [] is are none = absurd (cc)
    by_ops (op ∷ ops) is are none = record {
      op = op;
      ops = ops;
      is = is;
      step =
          subst (λ all. Manages k sections words ms op ops (manager_kind all ms.manager.under_way (next_of ms.list.sweep)) (manager_reads ms) (managed_by k sections words ms all ms.manager.under_way)) (sym is) (by_way op ops are.0 ms.manager.under_way refl none);
    }
