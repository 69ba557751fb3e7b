-- How long an unload and a clean take: what their first step leaves, that each further one leaves fewer, and that a CPU's step leaves as many.
use Rattle.std.proofs.Common.{◌≡◌, ◌↔◌, ℕ, ◌+◌, ◌*◌, ◌<◌, ◌≤◌, List, [], ◌∷◌, length, refl, sym, ap, ◌∙◌, subst, arith, Bool, true, false, cond, Option, Some, None, inl, inr}
use Rattle.std.proofs.lemmas.Bool.{cases_lt}
use Rattle.tag_model.specs.declared.state.Kind.TheVariants.{Bytes}
use Rattle.tag_model.specs.declared.state.Sweep.{Sweep}
use Rattle.tag_model.specs.declared.state.Sweep.TheVariants as sweep
use Rattle.tag_model.specs.StepRules.{begins_pass, dead_ids}
use Rattle.module_area.specs.declared.entry.Entry.{Entry}
use Rattle.core_list.specs.ListState.{ListState, dead_list, loaded_entry, next_of, records_of, steps_at, sweep_steps, swept_list, tags_of}
use Rattle.core_list.proofs.Ends.{begins_of_all, begins_of_one, release_falls, scan_falls}
use Rattle.core_steps.specs.declared.op.Actor.TheVariants as actor
use Rattle.cpu_ops.specs.declared.op.CpuOp.{CpuOp}
use Rattle.cpu_ops.specs.declared.op.CpuOp.TheVariants.{Open, Close, Split, Swap, Trim, Enter, Leave}
use Rattle.module_ops.specs.declared.op.ManagerOp.{ManagerOp}
use Rattle.module_ops.specs.declared.op.ManagerOp.TheVariants.{Unload, Clean}
use Rattle.cpu_ops.specs.Machine.{first_refusal, hand_at, refusal_in, waiting_at}
use Rattle.module_ops.specs.Modules.{Managing, ModuleTable, is_nothing, managed_by, managed_on, manager_refusal, manager_refusal_in, scene_at, unloads}
use Rattle.core_steps.specs.CoreState.{CoreState, IsCore, IsReady, modules_stepped, refused, stepped}
use Rattle.core_steps.proofs.Kept.{first_passes, nothing_past, stay_now}
use Rattle.cpu_ops.proofs.LoadedEntry.{loaded_found}
use Rattle.core_steps.specs.Kinds.{StepKind}
use Rattle.core_steps.proofs.Managed.{Manages, sweep_told}
use Rattle.core_steps.proofs.ManagerCore.{manager_core}
use Rattle.core_steps.proofs.ManagerLeft.{some_left}
use Rattle.core_steps.proofs.ManagerRow.{managed_first}

-- what the manager's step makes of the modules, by its ops
pub managed_as : (s : CoreState) (m : Managing) → s.modules.manager ≡ m → (stepped s actor.Manager).modules ≡ managed_by s.shape s.sections s.words s.modules m.ops m.under_way
managed_as s m is = ap (λ (x : Managing). managed_by s.shape s.sections s.words s.modules x.ops x.under_way) is

-- ---- the first step

pub unload_bounded : (s : CoreState) (section : ℕ) (e : Entry) (ops : List ManagerOp) → IsCore s → s.modules.manager ≡ record { ops = Unload section ∷ ops; under_way = false } → loaded_entry section s.modules.list ≡ Some e
    → sweep_steps s.shape (stepped s actor.Manager).modules.list ≤ 2 * s.shape.cpus * e.length + 1
unload_bounded s section e ops core is found =
    let after : (stepped s actor.Manager).modules.list ≡ dead_list e.id s.modules.list =
    ap (λ (ms : ModuleTable). ms.list) (managed_as s (record { ops = Unload section ∷ ops; under_way = false }) is) ∙ ap (λ (o : Option Entry). (unloads s.modules (Unload section) ops o).list) found in
    subst (λ (l : ListState). sweep_steps s.shape l ≤ 2 * s.shape.cpus * e.length + 1) (sym after) (begins_of_one s.shape s.modules.list e.id e core.modules.list (loaded_found section s.modules.list e core.modules.list found).0)

pub clean_bounded : (s : CoreState) (ops : List ManagerOp) → IsCore s → s.modules.manager ≡ record { ops = Clean ∷ ops; under_way = false }
    → sweep_steps s.shape (stepped s actor.Manager).modules.list ≤ 2 * s.shape.cpus * tags_of (dead_ids (records_of s.modules.list)) s.modules.list.area.entries + length (dead_ids (records_of s.modules.list))
clean_bounded s ops core is =
    let l = s.modules.list in
    let after : (stepped s actor.Manager).modules.list ≡ swept_list l = ap (λ (ms : ModuleTable). ms.list) (managed_as s (record { ops = Clean ∷ ops; under_way = false }) is) in
    subst (λ (x : ListState). sweep_steps s.shape x ≤ 2 * s.shape.cpus * tags_of (dead_ids (records_of l)) l.area.entries + length (dead_ids (records_of l))) (sym after) (begins_of_all s.shape l core.modules.list)

pub clean_of_nothing : (s : CoreState) (ops : List ManagerOp) → s.modules.manager ≡ record { ops = Clean ∷ ops; under_way = false } → dead_ids (records_of s.modules.list) ≡ [] → (stepped s actor.Manager).modules.manager ≡ record { ops = ops; under_way = false }
clean_of_nothing s ops is none =
    let l = s.modules.list in
    ap (λ (ms : ModuleTable). ms.manager) (managed_as s (record { ops = Clean ∷ ops; under_way = false }) is)
    ∙ ap (λ (ids : List ℕ). managed_on Clean ops (record l { sweep = begins_pass Bytes ids (records_of l); stops = [] })) none

-- ---- further steps

-- a further step isn't refused
pub unrefused : (s : CoreState) → IsCore s → s.modules.manager.under_way ≡ true → manager_refusal s.sections s.modules ≡ None
unrefused s core way = go s.modules.manager.ops refl
  where
    go : (ops : List ManagerOp) → s.modules.manager.ops ≡ ops → manager_refusal_in s.sections s.modules.list ops s.modules.manager.under_way ≡ None
    go [] is = absurd (core.modules.some_op way is)
    go (op ∷ ops) is = rw way refl

fewer_after : (s : CoreState) → IsCore s → (op : ManagerOp) (ops : List ManagerOp) (kind : Option StepKind) (n : ℕ) (after : ModuleTable) → s.modules.manager.under_way ≡ true → Manages s.shape s.sections s.words s.modules op ops kind n after
    → sweep_steps s.shape after.list < sweep_steps s.shape s.modules.list
fewer_after s core op ops kind n after way (Manages.loads section starts is none) = absurd (cc)
fewer_after s core op ops kind n after way (Manages.marks_dead section e starts is unused) = absurd (cc)
fewer_after s core op ops kind n after way (Manages.sweeps starts) = absurd (cc)
fewer_after s core op ops kind n after way (Manages.scans left r goes is) = scan_falls s.shape s.modules.list _ left r core.modules.list (sweep_told s core).0 is
fewer_after s core op ops kind n after way (Manages.releases id left goes is) = release_falls s.shape s.modules.list id left is

pub sweep_falls : (s : CoreState) → IsCore s → s.modules.manager.under_way ≡ true → sweep_steps s.shape (stepped s actor.Manager).modules.list < sweep_steps s.shape s.modules.list
sweep_falls s core way = let first = managed_first s core (unrefused s core way) in fewer_after s core first.op first.ops _ _ _ way first.step

-- what is left of an op that goes on isn't nothing
ends_at : (s : CoreState) → IsCore s → sweep_steps s.shape s.modules.list ≡ 0 → is_nothing (next_of s.modules.list.sweep) ≡ true
ends_at s core none = go (is_nothing (next_of s.modules.list.sweep)) refl
  where
    go : (b : Bool) → is_nothing (next_of s.modules.list.sweep) ≡ b → b ≡ true
    go true is = refl
    go false is = absurd (omega (arith, some_left s core s.modules.list.sweep refl is))

sweep_ends : (s : CoreState) (op : ManagerOp) (ops : List ManagerOp) → IsCore s → s.modules.manager ≡ record { ops = op ∷ ops; under_way = true } → sweep_steps s.shape (stepped s actor.Manager).modules.list ≡ 0
    → (stepped s actor.Manager).modules.manager ≡ record { ops = ops; under_way = false }
sweep_ends s op ops core is none =
    let way : s.modules.manager.under_way ≡ true = ap (λ (m : Managing). m.under_way) is in
    let made = managed_as s (record { ops = op ∷ ops; under_way = true }) is in
    let over = ends_at (stepped s actor.Manager) (manager_core s core (unrefused s core way)) none in
    ap (λ (ms : ModuleTable). ms.manager) made
    ∙ (ap (managed_on op ops) (sym (ap (λ (ms : ModuleTable). ms.list) made))
    ∙ ap (λ b. cond {A = Managing} b (record { ops = ops; under_way = false }) (record { ops = op ∷ ops; under_way = true })) over)

-- where nothing is left to read or to release, nothing is left
nothing_left : (s : CoreState) → is_nothing (next_of s.modules.list.sweep) ≡ true → sweep_steps s.shape s.modules.list ≡ 0
nothing_left s over = go s.modules.list.sweep over
  where
    go : (x : Sweep) → is_nothing (next_of x) ≡ true → steps_at s.shape s.modules.list.area.entries x ≡ 0
    go sweep.None over = refl
    go (sweep.Reading left r) over = absurd (cc)
    go (sweep.Done []) over = refl
    go (sweep.Done (id ∷ left)) over = absurd (cc)

ended_has_nothing : (s : CoreState) (op : ManagerOp) (ops : List ManagerOp) → s.modules.manager ≡ record { ops = op ∷ ops; under_way = true } → (stepped s actor.Manager).modules.manager ≡ record { ops = ops; under_way = false }
    → sweep_steps s.shape (stepped s actor.Manager).modules.list ≡ 0
ended_has_nothing s op ops is ended =
    let made = managed_as s (record { ops = op ∷ ops; under_way = true }) is in
    let on : (managed_on op ops (stepped s actor.Manager).modules.list).under_way ≡ false =
    ap (λ (l : ListState). (managed_on op ops l).under_way) (ap (λ (ms : ModuleTable). ms.list) made) ∙ (sym (ap (λ (ms : ModuleTable). ms.manager.under_way) made) ∙ ap (λ (m : Managing). m.under_way) ended) in
    nothing_left (stepped s actor.Manager) (go (is_nothing (next_of (stepped s actor.Manager).modules.list.sweep)) on)
  where
    go : (b : Bool) → (cond {A = Managing} b (record { ops = ops; under_way = false }) (record { ops = op ∷ ops; under_way = true })).under_way ≡ false → b ≡ true
    go true on = refl
    go false on = absurd (cc)

pub ends_exactly : (s : CoreState) (op : ManagerOp) (ops : List ManagerOp) → IsCore s → s.modules.manager ≡ record { ops = op ∷ ops; under_way = true }
    → (sweep_steps s.shape (stepped s actor.Manager).modules.list ≡ 0) ↔ ((stepped s actor.Manager).modules.manager ≡ record { ops = ops; under_way = false })
ends_exactly s op ops core is = (sweep_ends s op ops core is, ended_has_nothing s op ops is)

-- ---- a step of a CPU

module _ (s : CoreState) (cpu : ℕ) (core : IsCore s) (below : cpu < s.shape.cpus) (way : s.modules.manager.under_way ≡ true) where
  -- an op that goes in or out is refused at its one step
  held_op : (op : CpuOp) (ops : List CpuOp) (done : ℕ) → IsReady s.sections s.machine.places (hand_at s.machine cpu) (op ∷ ops) done
      → (done ≡ 0 → first_refusal s.machine.places s.machine.waiting (scene_at s.modules cpu) op ≡ None) → modules_stepped s.machine s.modules cpu (op ∷ ops) done ≡ s.modules
  held_op (Enter section) ops done ready free = let first : done ≡ 0 = omega (arith, ready.0.within) in let none = free first in absurd (cc)
  held_op (Leave section) ops done ready free = let first : done ≡ 0 = omega (arith, ready.0.within) in let none = free first in absurd (cc)
  held_op (Open key section index size) ops done ready free = stay_now s cpu core below (Open key section index size) done refl
  held_op (Close key) ops done ready free = stay_now s cpu core below (Close key) done refl
  held_op (Split key parts first) ops done ready free = stay_now s cpu core below (Split key parts first) done refl
  held_op (Swap one two) ops done ready free = stay_now s cpu core below (Swap one two) done refl
  held_op (Trim key bytes) ops done ready free = stay_now s cpu core below (Trim key bytes) done refl

  held_ops : (ops : List CpuOp) (done : ℕ) → IsReady s.sections s.machine.places (hand_at s.machine cpu) ops done → refusal_in s.machine (scene_at s.modules cpu) ops done ≡ None → modules_stepped s.machine s.modules cpu ops done ≡ s.modules
  held_ops [] done ready none = refl
  held_ops (op ∷ ops) done ready none = held_op op ops done ready (first_passes s.machine (scene_at s.modules cpu) op ops done none)

pub stays_held : (s : CoreState) (cpu : ℕ) → IsCore s → s.modules.manager.under_way ≡ true → refused s (actor.Cpu cpu) ≡ None → (stepped s (actor.Cpu cpu)).modules ≡ s.modules
stays_held s cpu core way none = elim (cases_lt cpu s.shape.cpus) [
  | inl below ↦ held_ops s cpu core below way (waiting_at s.machine cpu).ops (waiting_at s.machine cpu).done (core.machine.ready cpu below) none
  | inr past ↦ let bad = nothing_past s.machine (scene_at s.modules cpu) cpu (omega (arith, core.machine.waiting)) in absurd (cc)
]
