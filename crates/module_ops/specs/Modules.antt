-- The modules of the machine: who is inside which, the module list, and what the manager does.
use Rattle.std.specs.List.{AllByRecursion}
use Rattle.std.specs.Prelude.{◌≡◌, ◌+◌, ◌*◌, ◌++◌, ◌<◌, ◌≤◌, IsTrue, IsSomeAnd, replicate, ℕ, zero, suc, ◌-◌, ◌==◌, Bool, true, false, if◌then◌else◌, Option, Some, None, List, [], ◌∷◌, length, slice_index, slice_index_or, slice_set}
use Rattle.std.specs.Option.{option_map}
use Rattle.tag_model.specs.declared.shape.Shape.{Shape}
use Rattle.tag_model.specs.declared.state.Run.{Run}
use Rattle.tag_model.specs.declared.state.Reader.{Reader}
use Rattle.tag_model.specs.declared.state.Stop.{Stop}
use Rattle.tag_model.specs.declared.state.Kind.{Kind}
use Rattle.tag_model.specs.Shape.{IsChecked}
use Rattle.tag_model.specs.Laws.{sweep_fits}
use Rattle.tag_model.specs.WordState.{word_place}
use Rattle.tag_section.specs.Section.{Section, tags_in}
use Rattle.module_area.specs.declared.entry.Entry.{Entry}
use Rattle.module_area.specs.declared.entry.State.TheVariants.{Loaded}
use Rattle.module_area.specs.declared.book.TheConstants.{USER_LIMIT}
use Rattle.module_area.specs.declared.book.AreaError.{AreaError}
use Rattle.module_area.specs.declared.book.AreaError.TheVariants as area
use Rattle.module_area.specs.Entries.{entry_of}
use Rattle.core_list.specs.declared.list.Next.{Next}
use Rattle.core_list.specs.declared.list.Next.TheVariants.{Nothing, Read, Release}
use Rattle.core_list.specs.ListState.{ListState, records_of, fresh_list, run_of, loaded_entry, load_refusal, loaded, entered_list, left_list, dead_list, swept_list, scanned, found_at, released, next_of, section_in, start_in, sum_read}
use Rattle.module_ops.specs.declared.op.ManagerOp.{ManagerOp}
use Rattle.module_ops.specs.declared.op.ManagerOp.TheVariants.{Load, Unload, Clean}
use Rattle.module_ops.specs.declared.event.Cause.{Cause}
use Rattle.module_ops.specs.declared.event.Cause.TheVariants as cause
use Rattle.module_ops.specs.declared.event.Event.{Event}
use Rattle.module_ops.specs.declared.event.Event.TheVariants.{Stepped, Released, Kept}
use Rattle.cpu_ops.specs.declared.refused.StepRefused.{StepRefused}
use Rattle.cpu_ops.specs.declared.refused.StepRefused.TheVariants.{NoStep, NotLoaded, AlreadyLoaded, Busy, Full, NoRoom}
use Rattle.cpu_ops.specs.declared.step.WordStep.{WordStep}
use Rattle.cpu_ops.specs.declared.step.WordStep.TheVariants.{GoIn, GoOut}
use Rattle.cpu_ops.specs.Machine.{Scene, run_at}
use Rattle.cpu_ops.specs.MayQueue.{IsModule}

-- the manager's ops, in order, and whether the first is under way
pub record Managing : Type 0 where
  pub ops : List ManagerOp
  pub under_way : Bool

-- by CPU and section, the runs of CPUs on modules; the list; the manager
pub record ModuleTable : Type 0 where
  pub inside : List (List (Option Run))
  pub list : ListState
  pub manager : Managing

abbrev pub nothing_managed : Managing
nothing_managed = record { ops = []; under_way = false }

-- no CPU is inside a module, and none was loaded
abbrev pub fresh_modules : Shape → ℕ → ModuleTable
fresh_modules k sections = record { inside = replicate k.cpus (replicate sections None); list = fresh_list k.kernel_tags (k.tags - k.kernel_tags); manager = nothing_managed }

-- the op is the manager's last
abbrev pub with_managed : Managing → ManagerOp → Managing
with_managed w op = record w { ops = w.ops ++ op ∷ [] }

abbrev pub inside_at : ModuleTable → ℕ → List (Option Run)
inside_at ms cpu = slice_index_or ms.inside cpu []

-- the manager holds the list from the first step of an unload or a clean to its last
abbrev pub scene_at : ModuleTable → ℕ → Scene
scene_at ms cpu = record { held = ms.manager.under_way; list = ms.list; inside = inside_at ms cpu }

-- ---- steps of a CPU

abbrev pub with_inside : ModuleTable → ℕ → ℕ → Option Run → ListState → ModuleTable
with_inside ms cpu section run list = record ms { inside = slice_set ms.inside cpu (slice_set (inside_at ms cpu) section run); list = list }

-- the CPU gets a run on the loaded module of the section, which gets a user
abbrev pub goes_in : ModuleTable → ℕ → ℕ → Option Entry → ModuleTable
goes_in ms cpu section None = ms
goes_in ms cpu section (Some e) = with_inside ms cpu section (Some (run_of e)) (entered_list e.id ms.list)

-- the CPU's run on the section's module ends, and the module has a user less
abbrev pub goes_out : ModuleTable → ℕ → ℕ → Option Run → ModuleTable
goes_out ms cpu section None = ms
goes_out ms cpu section (Some r) = with_inside ms cpu section None (left_list r.id ms.list)

abbrev pub modules_after : WordStep → ModuleTable → ℕ → ModuleTable
modules_after (GoIn section) ms cpu = goes_in ms cpu section (loaded_entry section ms.list)
modules_after (GoOut section) ms cpu = goes_out ms cpu section (run_at (inside_at ms cpu) section)
modules_after other ms cpu = ms

-- ---- when a step of the manager is refused

abbrev pub load_refused : ℕ → AreaError → StepRefused
load_refused section area.SameName = AlreadyLoaded section
load_refused section area.BookFull = Full
load_refused section area.NoRoom = NoRoom
load_refused section area.NoSection = NotLoaded section

abbrev pub unload_refused : ℕ → Option Entry → Option StepRefused
unload_refused section None = Some (NotLoaded section)
unload_refused section (Some e) = if e.users == 0 then None else Some (Busy e.users)

-- the first step of an op of the manager
abbrev pub manager_first : List Section → ListState → ManagerOp → Option StepRefused
manager_first sections list (Load section) = option_map (load_refused section) (load_refusal section (tags_in sections section) list)
manager_first sections list (Unload section) = unload_refused section (loaded_entry section list)
manager_first sections list Clean = None

abbrev pub manager_refusal_in : List Section → ListState → List ManagerOp → Bool → Option StepRefused
manager_refusal_in sections list [] under_way = Some NoStep
manager_refusal_in sections list (op ∷ ops) under_way = if under_way then None else manager_first sections list op

-- why the manager's next step is refused, if it is
abbrev pub manager_refusal : List Section → ModuleTable → Option StepRefused
manager_refusal sections ms = manager_refusal_in sections ms.list ms.manager.ops ms.manager.under_way

-- ---- steps of the manager

abbrev pub is_nothing : Next → Bool
is_nothing Nothing = true
is_nothing other = false

-- an op of the manager ends where nothing is left to read or to release
abbrev pub managed_on : ManagerOp → List ManagerOp → ListState → Managing
managed_on op ops list = if is_nothing (next_of list.sweep) then record { ops = ops; under_way = false } else record { ops = op ∷ ops; under_way = true }

abbrev pub swept_on : ModuleTable → ManagerOp → List ManagerOp → ListState → ModuleTable
swept_on ms op ops list = record ms { list = list; manager = managed_on op ops list }

abbrev pub unloads : ModuleTable → ManagerOp → List ManagerOp → Option Entry → ModuleTable
unloads ms op ops None = ms
unloads ms op ops (Some e) = swept_on ms op ops (dead_list e.id ms.list)

-- the first step: load is over with it; unload marks dead and begins a sweep; clean begins a sweep of all that are dead
abbrev pub begins_op : List Section → ModuleTable → ManagerOp → List ManagerOp → ModuleTable
begins_op sections ms (Load section) ops = record ms { list = loaded section (tags_in sections section) ms.list; manager = record { ops = ops; under_way = false } }
begins_op sections ms (Unload section) ops = unloads ms (Unload section) ops (loaded_entry section ms.list)
begins_op sections ms Clean ops = swept_on ms Clean ops (swept_list ms.list)

-- a CPU's words
abbrev pub words_at : List (List ℕ) → ℕ → List ℕ
words_at words cpu = slice_index_or words cpu []

-- a CPU's word of a kind for a tag
abbrev pub word_in : List (List ℕ) → ℕ → Kind → ℕ → ℕ
word_in words cpu kind tag = slice_index (slice_index_or words cpu []) (word_place kind tag)

-- the word that a sweep reads next
abbrev pub word_read : List (List ℕ) → Reader → ℕ
word_read words r = word_in words r.cpu r.pass r.tag

-- the sweep reads the next CPU's word, or releases the first module on its list
abbrev pub sweep_goes : Shape → List (List ℕ) → ListState → Next → ListState
sweep_goes k words list Nothing = list
sweep_goes k words list (Read r) = scanned k (word_read words r) list
sweep_goes k words list (Release id) = released list

abbrev pub managed_by : Shape → List Section → List (List ℕ) → ModuleTable → List ManagerOp → Bool → ModuleTable
managed_by k sections words ms [] under_way = ms
managed_by k sections words ms (op ∷ ops) under_way =
    if under_way then swept_on ms op ops (sweep_goes k words ms.list (next_of ms.list.sweep)) else begins_op sections ms op ops

-- the modules after the manager's next step, which reads a word of these words
abbrev pub managed : Shape → List Section → List (List ℕ) → ModuleTable → ModuleTable
managed k sections words ms = managed_by k sections words ms ms.manager.ops ms.manager.under_way

-- ---- what a step of the manager tells

abbrev pub cause_of : List ManagerOp → Cause
cause_of (Unload section ∷ ops) = cause.Unload
cause_of other = cause.Clean

abbrev pub kept_by : Cause → List Entry → Option Stop → Event
kept_by by entries None = Stepped
kept_by by entries (Some stop) = Kept (section_in (entry_of entries stop.id)) (stop.tag - start_in (entry_of entries stop.id)) stop.kind stop.sum by

abbrev pub event_of_sweep : Shape → List (List ℕ) → ListState → Cause → Next → Event
event_of_sweep k words list by Nothing = Stepped
event_of_sweep k words list by (Read r) = kept_by by list.area.entries (found_at k (word_read words r) list.sweep)
event_of_sweep k words list by (Release id) = Released (section_in (entry_of list.area.entries id)) by

-- the read that finds a sum, and the release, are told
abbrev pub manager_event : Shape → List (List ℕ) → ModuleTable → Event
manager_event k words ms = if ms.manager.under_way then event_of_sweep k words ms.list (cause_of ms.manager.ops) (next_of ms.list.sweep) else Stepped

-- how many words the manager's next step reads
abbrev pub words_read : Next → ℕ
words_read (Read r) = 1
words_read other = 0

abbrev pub manager_reads : ModuleTable → ℕ
manager_reads ms = if ms.manager.under_way then words_read (next_of ms.list.sweep) else 0

-- ---- some steps of the manager at once

-- the modules after so many steps of the manager
abbrev pub managed_times : Shape → List Section → List (List ℕ) → ℕ → ModuleTable → ModuleTable
managed_times k sections words zero ms = ms
managed_times k sections words (suc n) ms = managed_times k sections words n (managed k sections words ms)

-- none of so many steps of the manager is refused, and none tells anything
abbrev pub TellNothing : Shape → List Section → List (List ℕ) → ℕ → ModuleTable → Type 0
TellNothing k sections words zero ms = Unit {0}
TellNothing k sections words (suc n) ms = (manager_refusal sections ms ≡ None) × (manager_event k words ms ≡ Stepped) × TellNothing k sections words n (managed k sections words ms)

abbrev pub read_of : Next → Option Reader
read_of (Read r) = Some r
read_of other = None

abbrev pub reads_in : List ManagerOp → Bool → Next → Option Reader
reads_in [] under_way next = None
reads_in (op ∷ ops) under_way next = if under_way then read_of next else None

-- the word that the manager's next step reads, if it reads one
abbrev pub reads_next : ModuleTable → Option Reader
reads_next ms = reads_in ms.manager.ops ms.manager.under_way (next_of ms.list.sweep)

abbrev pub ahead_of : Shape → Option Reader → ℕ
ahead_of k None = 0
ahead_of k (Some r) = k.cpus - 1 - r.cpu

-- how many words the sweep has still to read of its tag before that of the last CPU
abbrev pub words_ahead : Shape → ModuleTable → ℕ
words_ahead k ms = ahead_of k (reads_next ms)

-- the reader after so many reads, CPU by CPU
abbrev pub read_over : List (List ℕ) → ℕ → Reader → Reader
read_over words zero r = r
read_over words (suc n) r = read_over words n (record r { cpu = r.cpu + 1; sum = sum_read r (word_read words r) })

-- ---- what a step needs

-- the module that is entered can have one user more
abbrev pub HasUserLeft : ListState → Option Entry → Type 0
HasUserLeft list None = Unit {0}
HasUserLeft list (Some e) = IsSomeAnd (entry_of list.area.entries e.id) (λ entry. (entry.state ≡ Loaded) × (entry.users < USER_LIMIT))

-- the module that is left has a user
abbrev pub HasUser : ListState → Option Run → Type 0
HasUser list None = Unit {0}
HasUser list (Some r) = IsSomeAnd (entry_of list.area.entries r.id) (λ entry. 0 < entry.users)

-- the list can count a CPU that goes in or out
abbrev pub ListFits : WordStep → ModuleTable → ℕ → Type 0
ListFits (GoIn section) ms cpu = (cpu < length ms.inside) × (section < length (inside_at ms cpu)) × HasUserLeft ms.list (loaded_entry section ms.list)
ListFits (GoOut section) ms cpu = (cpu < length ms.inside) × (section < length (inside_at ms cpu)) × HasUser ms.list (run_at (inside_at ms cpu) section)
ListFits other ms cpu = Unit {0}

-- an op of the manager
abbrev pub IsManagerOp : List Section → ManagerOp → Type 0
IsManagerOp sections (Load section) = IsModule sections section
IsManagerOp sections (Unload section) = IsModule sections section
IsManagerOp sections Clean = Unit {0}

-- what the manager's next step reads is there
pub record CanManage (k : Shape) (sections : List Section) (words : List (List ℕ)) (ms : ModuleTable) : Type 0 where
  pub checked : IsChecked k
  pub ops : AllByRecursion (IsManagerOp sections) ms.manager.ops
  pub some_tag : (section : ℕ) → section < length sections → 1 ≤ tags_in sections section
  pub cpus : length words ≡ k.cpus
  pub own_words : (cpu : ℕ) → cpu < k.cpus → length (words_at words cpu) ≡ 2 * k.tags
  pub area : ms.list.area.first + ms.list.area.tags ≡ k.tags
  pub sweep : IsTrue (sweep_fits k ms.list.sweep (records_of ms.list))
