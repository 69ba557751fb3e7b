-- The manager's step is a row of the step rules, and leaves a safe state.
use Rattle.std.proofs.Common.{◌≡◌, ℕ, ◌+◌, ◌<◌, List, [], ◌∷◌, ◌++◌, length, get_or, set, slice_index, refl, sym, ap, ◌∙◌, subst, arith, true, Option, Some, None, IsSomeAnd, add-zero}
use Rattle.std.proofs.lemmas.List.{set-get_or}
use Rattle.tag_model.specs.declared.shape.Shape.{Shape}
use Rattle.tag_model.specs.declared.state.CpuPart.{CpuPart}
use Rattle.tag_model.specs.declared.state.Part.TheVariants.{Cpu, Modules, NextId}
use Rattle.tag_model.specs.declared.state.Run.{Run}
use Rattle.tag_model.specs.Laws.{Safe, sweep_fits}
use Rattle.tag_model.specs.declared.state.Reader.{Reader}
use Rattle.tag_model.specs.declared.state.Sweep.{Sweep}
use Rattle.tag_model.specs.Histories.{pass_begun}
use Rattle.tag_model.specs.StepRules.{Becomes, Row, Scans, StepsWith, Sweeps}
use Rattle.tag_model.specs.WordState.{word_place}
use Rattle.tag_model.proofs.ScanRow.{reading_fits}
use Rattle.tag_model.proofs.Steps.{safe-steps_with}
use Rattle.core_list.specs.ListState.{ListState, dead_list, list_part, loaded, records_of, released, released_at, scanned, scanned_at, swept_list}
use Rattle.core_list.proofs.Changes.{row-loads, row-marks_dead, row-releases, row-scans}
use Rattle.cpu_ops.specs.Machine.{Machine}
use Rattle.module_ops.specs.declared.op.ManagerOp.{ManagerOp}
use Rattle.module_ops.specs.Modules.{ModuleTable, manager_reads, manager_refusal, word_read}
use Rattle.tag_section.specs.Section.{tags_in}
use Rattle.core_steps.specs.CoreState.{CoreState, IsCore, cpu_part, cpu_parts, place_parts, state_with, state_after, stepped, word_state, runs_of}
use Rattle.core_steps.specs.declared.op.Actor.TheVariants as actor
use Rattle.core_steps.specs.Kinds.{StepKind, begins_as, kind_of, row_kind, scan_of}
use Rattle.core_steps.proofs.ByKind.{GoesBy, kind_with, scan_begins}
use Rattle.core_steps.proofs.Parts.{becomes_cpu_list, becomes_load, get_or-cpu_parts, length-cpu_parts}
use Rattle.core_steps.proofs.Managed.{list_becomes, safe_unread, sweep_told, Manages, ManagesFirst, manages}
use Rattle.cpu_ops.proofs.LoadedEntry.{loaded_found}

-- a row on the list part alone, that reads no word and gives no id
pub steps_alone : (k : Shape) (reads : ℕ) (m : Machine) (words : List (List ℕ)) (runs : ℕ → List Run) (l n : ListState) → n.last_id ≡ l.last_id → (row : Row k (Modules (list_part reads [] l) ∷ []) (Modules (list_part reads [] n) ∷ []))
    → (kind : StepKind) (after : Sweep) → row_kind row ≡ kind → pass_begun row ≡ begins_as (Some kind) after → GoesBy k kind after (state_with reads [] m words runs l) (state_with (reads + 0) [] m words runs n)
steps_alone k reads m words runs l n same row kind after is begins =
    rw add-zero (GoesBy.alone (record { v = Modules (list_part reads [] l) ∷ []; w = Modules (list_part reads [] n) ∷ []; row = row; becomes = list_becomes reads reads m words runs l n same }) is begins)

-- a load gives the next id
steps_loads : (k : Shape) (reads : ℕ) (m : Machine) (words : List (List ℕ)) (runs : ℕ → List Run) (l : ListState) (section size : ℕ)
    → (row : Row k (Modules (list_part reads [] l) ∷ NextId (l.last_id + 1) ∷ []) (Modules (list_part reads [] (loaded section size l)) ∷ NextId (l.last_id + 1 + 1) ∷ []))
    → (kind : StepKind) (after : Sweep) → row_kind row ≡ kind → pass_begun row ≡ begins_as (Some kind) after → GoesBy k kind after (state_with reads [] m words runs l) (state_with (reads + 0) [] m words runs (loaded section size l))
unfolding state_with
steps_loads k reads m words runs l section size row kind after is begins =
    let old = Modules (list_part reads [] l) in
    let new = Modules (list_part reads [] (loaded section size l)) in
    rw add-zero (GoesBy.alone (record {
      v = old ∷ NextId (l.last_id + 1) ∷ [];
      w = new ∷ NextId (l.last_id + 1 + 1) ∷ [];
      row = row;
      becomes = becomes_load (cpu_parts 0 m.hands words runs) (place_parts 0 m.places) old new (NextId (l.last_id + 1)) (NextId (l.last_id + 1 + 1));
    }) is begins)

-- a read is of the words of the CPU at which the sweep stands
steps_scans : (k : Shape) (reads : ℕ) (m : Machine) (words : List (List ℕ)) (runs : ℕ → List Run) (l n : ListState) (left : List ℕ) (r : Reader) (cpu : ℕ) → n.last_id ≡ l.last_id → length m.hands ≡ length words → cpu < length m.hands
    → ((c : CpuPart) → c.number ≡ cpu → c.words ≡ get_or words cpu [] → Scans k left r c (list_part reads [] l) (list_part (reads + 1) [] n))
    → GoesBy k (scan_of r.pass) n.sweep (state_with reads [] m words runs l) (state_with (reads + 1) [] m words runs n)
unfolding state_with
steps_scans k reads m words runs l n left r cpu same len below scan =
    let parts = cpu_parts 0 m.hands words runs in
    let c = cpu_part (0 + cpu) (get_or m.hands cpu None) (get_or words cpu []) (runs (0 + cpu)) in
    let old = Modules (list_part reads [] l) in
    let new = Modules (list_part (reads + 1) [] n) in
    let there : get_or parts cpu (Cpu c) ≡ Cpu c = get_or-cpu_parts 0 m.hands words runs cpu (Cpu c) len below in
    let stays : set parts cpu (Cpu c) ≡ parts = ap (set parts cpu) (sym there) ∙ set-get_or parts cpu (Cpu c) in
    let within : cpu < length parts = omega (arith, length-cpu_parts 0 m.hands words runs len) in
    let becomes = becomes_cpu_list parts (place_parts 0 m.places) (NextId (l.last_id + 1) ∷ []) cpu (Cpu c) (Cpu c) old new within there in
    rw same (GoesBy.alone (record { v = Cpu c ∷ old ∷ []; w = Cpu c ∷ new ∷ []; row = Row.scans (scan c (omega arith) refl); becomes = subst (λ ps. Becomes (Cpu c ∷ old ∷ []) (Cpu c ∷ new ∷ []) (parts ++ (place_parts 0 m.places ++ old ∷ NextId (l.last_id + 1) ∷ [])) (ps ++ (place_parts 0 m.places ++ new ∷ NextId (l.last_id + 1) ∷ []))) stays becomes }) refl (scan_begins r.pass n.sweep))

-- ---- the manager's step

-- the core with these modules
abbrev with_modules : CoreState → ModuleTable → CoreState
with_modules s ms = record s { modules = ms }

steps_managed : (s : CoreState) → IsCore s → (op : ManagerOp) (ops : List ManagerOp) (kind : Option StepKind) (n : ℕ) (after : ModuleTable) → Manages s.shape s.sections s.words s.modules op ops kind n after
    → (reads : ℕ) → IsSomeAnd kind (λ some. GoesBy s.shape some after.list.sweep (state_after reads s) (state_after (reads + n) (with_modules s after)))
steps_managed s core op ops kind n after (Manages.loads section starts is none) reads =
    let l = s.modules.list in
    let row = row-loads s.shape l reads section (tags_in s.sections section) [] core.modules.list (omega (arith, core.modules.first)) (omega (arith, core.modules.tags)) (core.sections.some_tag section is.has_section) none in
    steps_loads s.shape reads s.machine s.words (runs_of s.modules) l section (tags_in s.sections section) (Row.loads row) StepKind.Load (loaded section (tags_in s.sections section) l).sweep refl refl
steps_managed s core op ops kind n after (Manages.marks_dead section e starts is unused) reads =
    let l = s.modules.list in
    let found = loaded_found section l e core.modules.list is in
    let row = row-marks_dead l reads e.id e [] core.modules.list found.0 found.1 unused in
    steps_alone s.shape reads s.machine s.words (runs_of s.modules) l (dead_list e.id l) refl (Row.marks_dead row) StepKind.MarkDead (dead_list e.id l).sweep refl refl
steps_managed s core op ops kind n after (Manages.sweeps starts) reads =
    let l = s.modules.list in
    let row : Sweeps (list_part reads [] l) (list_part reads [] (swept_list l)) = record { after = refl } in
    steps_alone s.shape reads s.machine s.words (runs_of s.modules) l (swept_list l) refl (Row.sweeps row) StepKind.BeginSweep (swept_list l).sweep refl refl
steps_managed s core op ops kind n after (Manages.scans left r goes is) reads =
    let l = s.modules.list in
    let word = word_read s.words r in
    let below : r.cpu < s.shape.cpus = (reading_fits s.shape left r (records_of l) (subst (λ x. sweep_fits s.shape x (records_of l) ≡ true) is (sweep_told s core).0)).cpu in
    let same : (scanned s.shape word l).last_id ≡ l.last_id = ap (λ x. (scanned_at s.shape word l x).last_id) is in
    steps_scans s.shape reads s.machine s.words (runs_of s.modules) l (scanned s.shape word l) left r r.cpu same (core.machine.hands ∙ sym core.words) (omega (arith, core.machine.hands))
    (λ c number own. subst (λ ws. Scans s.shape left r c (list_part reads [] l) (list_part (reads + 1) [] (scanned s.shape (slice_index ws (word_place r.pass r.tag)) l))) own (row-scans s.shape l reads [] left r c is number))
steps_managed s core op ops kind n after (Manages.releases id left goes is) reads =
    let l = s.modules.list in
    let same : (released l).last_id ≡ l.last_id = ap (λ x. (released_at l x).last_id) is in
    steps_alone s.shape reads s.machine s.words (runs_of s.modules) l (released l) same (Row.releases (row-releases l reads id [] left is)) StepKind.Release (released l).sweep refl refl

pub managed_first : (s : CoreState) → IsCore s → manager_refusal s.sections s.modules ≡ None → ManagesFirst s.shape s.sections s.words s.modules
managed_first s core none = manages s.shape s.sections s.words s.modules core.modules.ops core.modules.goes_on none

-- it is of its kind
pub manager_kinds : (s : CoreState) → IsCore s → manager_refusal s.sections s.modules ≡ None → (reads : ℕ) → IsSomeAnd (kind_of s actor.Manager) (λ kind. GoesBy s.shape kind (stepped s actor.Manager).modules.list.sweep (state_after reads s) (state_after (reads + manager_reads s.modules) (stepped s actor.Manager)))
manager_kinds s core none reads = let first = managed_first s core none in steps_managed s core first.op first.ops _ _ _ first.step reads

pub manager_row : (s : CoreState) → IsCore s → manager_refusal s.sections s.modules ≡ None → (reads : ℕ) → StepsWith s.shape (state_after reads s) (state_after (reads + manager_reads s.modules) (stepped s actor.Manager))
manager_row s core none reads = kind_with s.shape (kind_of s actor.Manager) (stepped s actor.Manager).modules.list.sweep _ _ (manager_kinds s core none reads)

pub manager_safe : (s : CoreState) → IsCore s → manager_refusal s.sections s.modules ≡ None → Safe s.shape (word_state (stepped s actor.Manager))
manager_safe s core none =
    let after = stepped s actor.Manager in
    safe_unread s.shape (0 + manager_reads s.modules) s.machine s.words (runs_of after.modules) after.modules.list (safe-steps_with s.shape _ _ core.shape (manager_row s core none 0) core.safe)
