-- A core stays a core after the manager's step, and where an op is queued for the manager.
use Rattle.std.proofs.Common.{◌≡◌, ◌≢◌, ℕ, ◌==◌, List, [], ◌∷◌, ◌++◌, refl, ◌∙◌, subst, arith, Bool, true, false, not, cond, Option, Some, None, All}
use Rattle.std.specs.List.{AllByRecursion}
use Rattle.std.proofs.lemmas.List.Elements.{All-map, All-filter, All-push, All-weaker}
use Rattle.tag_model.specs.declared.shape.Shape.{Shape}
use Rattle.tag_model.specs.declared.state.Sweep.{Sweep}
use Rattle.tag_model.specs.declared.state.Sweep.TheVariants as sweep
use Rattle.tag_model.specs.Laws.{sweep_fits}
use Rattle.tag_section.specs.Section.{Section, tags_in}
use Rattle.module_area.specs.declared.entry.Entry.{Entry}
use Rattle.module_area.specs.Entries.{kept}
use Rattle.core_list.specs.ListState.{ListState, IsList, dead_list, loaded, new_entry, next_of, records_of, released, released_at, scanned, scanned_at, swept_list}
use Rattle.core_list.proofs.Kept.{list_dead_marked, list_loaded, list_released, list_scanned, list_swept}
use Rattle.core_steps.specs.declared.op.Actor.TheVariants as actor
use Rattle.module_ops.specs.declared.op.ManagerOp.{ManagerOp}
use Rattle.module_ops.specs.Modules.{Managing, ModuleTable, is_nothing, managed, managed_on, manager_refusal, word_read}
use Rattle.core_steps.specs.CoreState.{AreModules, CoreState, EntryFits, IsCore, queued_manager, stepped}
use Rattle.module_ops.specs.Modules.{IsManagerOp}
use Rattle.core_steps.specs.Kinds.{StepKind}
use Rattle.core_steps.proofs.Managed.{sweep_told, Manages}
use Rattle.core_steps.proofs.ManagerRow.{managed_first, manager_safe}

-- ---- what a step of the manager keeps of the list

record KeepsList (sections : List Section) (l n : ListState) : Type 0 where
  list : IsList n
  first : n.area.first ≡ l.area.first
  tags : n.area.tags ≡ l.area.tags
  entries : All (EntryFits sections) n.area.entries

-- an entry that is dead keeps its section and its range
fits_dead : (sections : List Section) (id : ℕ) (e : Entry) → EntryFits sections e → EntryFits sections (cond (e.id == id) (kept e) e)
fits_dead sections id e fits = go (e.id == id)
  where
    go : (b : Bool) → EntryFits sections (cond b (kept e) e)
    go true = record { of_module = fits.of_module; all_tags = fits.all_tags }
    go false = fits

keeps_dead : (sections : List Section) (l : ListState) (id : ℕ) → IsList l → All (EntryFits sections) l.area.entries → KeepsList sections l (dead_list id l)
keeps_dead sections l id ok fit = record {
  list = list_dead_marked l id ok;
  first = refl;
  tags = refl;
  entries = All-map (EntryFits sections) (λ e. cond (e.id == id) (kept e) e) l.area.entries (All-weaker (EntryFits sections) (λ e. EntryFits sections (cond (e.id == id) (kept e) e)) (fits_dead sections id) l.area.entries fit);
}

keeps_swept : (sections : List Section) (l : ListState) → IsList l → All (EntryFits sections) l.area.entries → KeepsList sections l (swept_list l)
keeps_swept sections l ok fit = record { list = list_swept l ok; first = refl; tags = refl; entries = fit }

keeps_scanned : (sections : List Section) (k : Shape) (word : ℕ) (l : ListState) → IsList l → All (EntryFits sections) l.area.entries → sweep_fits k l.sweep (records_of l) ≡ true → KeepsList sections l (scanned k word l)
keeps_scanned sections k word l ok fit fits = go l.sweep (list_scanned k word l ok fits)
  where
    go : (s : Sweep) → IsList (scanned_at k word l s) → KeepsList sections l (scanned_at k word l s)
    go sweep.None is = record { list = is; first = refl; tags = refl; entries = fit }
    go (sweep.Done left) is = record { list = is; first = refl; tags = refl; entries = fit }
    go (sweep.Reading left r) is = record { list = is; first = refl; tags = refl; entries = fit }

keeps_released : (sections : List Section) (l : ListState) → IsList l → All (EntryFits sections) l.area.entries → KeepsList sections l (released l)
keeps_released sections l ok fit = go l.sweep (list_released l ok)
  where
    go : (s : Sweep) → IsList (released_at l s) → KeepsList sections l (released_at l s)
    go sweep.None is = record { list = is; first = refl; tags = refl; entries = fit }
    go (sweep.Reading left r) is = record { list = is; first = refl; tags = refl; entries = fit }
    go (sweep.Done []) is = record { list = is; first = refl; tags = refl; entries = fit }
    go (sweep.Done (id ∷ left)) is = record { list = is; first = refl; tags = refl; entries = All-filter (λ e. not (e.id == id)) (EntryFits sections) l.area.entries fit }

-- ---- the modules after it

-- what holds of the manager after a step that isn't a load
record ManagesOn (sections : List Section) (list : ListState) (m : Managing) : Type 0 where
  ops : AllByRecursion (IsManagerOp sections) m.ops
  some_op : m.under_way ≡ true → m.ops ≢ []
  goes_on : m.under_way ≡ true → is_nothing (next_of list.sweep) ≡ false
  at_rest : m.under_way ≡ false → is_nothing (next_of list.sweep) ≡ true

manages_on : (sections : List Section) (op : ManagerOp) (ops : List ManagerOp) (list : ListState) → AllByRecursion (IsManagerOp sections) (op ∷ ops) → ManagesOn sections list (managed_on op ops list)
manages_on sections op ops list are = go (is_nothing (next_of list.sweep)) refl
  where
    go : (b : Bool) → is_nothing (next_of list.sweep) ≡ b → ManagesOn sections list (cond {A = Managing} b (record { ops = ops; under_way = false }) (record { ops = op ∷ ops; under_way = true }))
    go true is = record { ops = are.1; some_op = λ e. absurd (cc); goes_on = λ e. absurd (cc); at_rest = λ e. is }
    go false is = record { ops = are; some_op = λ e none. absurd (cc); goes_on = λ e. is; at_rest = λ e. absurd (cc) }

modules_with : (k : Shape) (sections : List Section) (ms : ModuleTable) (list : ListState) (m : Managing) → AreModules k sections ms → KeepsList sections ms.list list → ManagesOn sections list m → AreModules k sections (record ms { list = list; manager = m })
modules_with k sections ms list m are keeps on = record {
  cpus = are.cpus;
  slots = are.slots;
  runs = are.runs;
  list = keeps.list;
  first = keeps.first ∙ are.first;
  tags = omega (arith, keeps.first, keeps.tags, are.tags);
  entries = keeps.entries;
  ops = on.ops;
  some_op = on.some_op;
  goes_on = on.goes_on;
  at_rest = on.at_rest;
}

modules_after : (s : CoreState) → IsCore s → (op : ManagerOp) (ops : List ManagerOp) (kind : Option StepKind) (n : ℕ) (after : ModuleTable) → AllByRecursion (IsManagerOp s.sections) (op ∷ ops) → Manages s.shape s.sections s.words s.modules op ops kind n after → AreModules s.shape s.sections after
modules_after s core op ops kind n after are (Manages.loads section starts is none) =
    let l = s.modules.list in
    let size = tags_in s.sections section in
    let of_new : EntryFits s.sections (new_entry section size l) = record { of_module = is; all_tags = refl } in
    modules_with s.shape s.sections s.modules (loaded section size l) (record { ops = ops; under_way = false }) core.modules
    (record { list = list_loaded l section size core.modules.list (core.sections.some_tag section is.has_section) none; first = refl; tags = refl; entries = All-push (EntryFits s.sections) l.area.entries (new_entry section size l) core.modules.entries of_new })
    (record { ops = are.1; some_op = λ e. absurd (cc); goes_on = λ e. absurd (cc); at_rest = λ e. core.modules.at_rest starts })
modules_after s core op ops kind n after are (Manages.marks_dead section e starts is unused) =
    modules_with s.shape s.sections s.modules _ _ core.modules (keeps_dead s.sections s.modules.list e.id core.modules.list core.modules.entries) (manages_on s.sections op ops _ are)
modules_after s core op ops kind n after are (Manages.sweeps starts) =
    modules_with s.shape s.sections s.modules _ _ core.modules (keeps_swept s.sections s.modules.list core.modules.list core.modules.entries) (manages_on s.sections op ops _ are)
modules_after s core op ops kind n after are (Manages.scans left r goes is) =
    modules_with s.shape s.sections s.modules _ _ core.modules (keeps_scanned s.sections s.shape (word_read s.words r) s.modules.list core.modules.list core.modules.entries (sweep_told s core).0) (manages_on s.sections op ops _ are)
modules_after s core op ops kind n after are (Manages.releases id left goes is) =
    modules_with s.shape s.sections s.modules _ _ core.modules (keeps_released s.sections s.modules.list core.modules.list core.modules.entries) (manages_on s.sections op ops _ are)

pub manager_modules : (s : CoreState) → IsCore s → manager_refusal s.sections s.modules ≡ None → AreModules s.shape s.sections (managed s.shape s.sections s.words s.modules)
manager_modules s core none =
    let first = managed_first s core none in
    modules_after s core first.op first.ops _ _ _ (subst (AllByRecursion (IsManagerOp s.sections)) first.is core.modules.ops) first.step

pub manager_core : (s : CoreState) → IsCore s → manager_refusal s.sections s.modules ≡ None → IsCore (stepped s actor.Manager)
manager_core s core none = record {
  shape = core.shape;
  sections = core.sections;
  machine = core.machine;
  words = core.words;
  own_words = core.own_words;
  modules = manager_modules s core none;
  safe = manager_safe s core none;
}

-- ---- an op is queued

pub all_push : (P : ManagerOp → Type 0) (ops : List ManagerOp) (op : ManagerOp) → AllByRecursion P ops → P op → AllByRecursion P (ops ++ op ∷ [])
all_push P [] op are is = (is, tt)
all_push P (x ∷ ops) op are is = (are.0, all_push P ops op are.1 is)

push_some : (ops : List ManagerOp) (op : ManagerOp) → ops ++ op ∷ [] ≢ []
push_some [] op none = absurd (cc)
push_some (x ∷ ops) op none = absurd (cc)

pub manager_queued : (s : CoreState) (op : ManagerOp) → IsCore s → IsManagerOp s.sections op → IsCore (queued_manager s (Some op))
manager_queued s op core is = record {
  shape = core.shape;
  sections = core.sections;
  machine = core.machine;
  words = core.words;
  own_words = core.own_words;
  modules = record {
    cpus = core.modules.cpus;
    slots = core.modules.slots;
    runs = core.modules.runs;
    list = core.modules.list;
    first = core.modules.first;
    tags = core.modules.tags;
    entries = core.modules.entries;
    ops = all_push (IsManagerOp s.sections) s.modules.manager.ops op core.modules.ops is;
    some_op = λ on. push_some s.modules.manager.ops op;
    goes_on = core.modules.goes_on;
    at_rest = core.modules.at_rest;
  };
  safe = core.safe;
}
