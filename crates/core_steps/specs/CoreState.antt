-- The machine with its words, the word state that it stands for, and what holds of it.
use Rattle.std.specs.List.{AllByRecursion}
use Rattle.std.specs.Prelude.{◌≡◌, ℕ, All, map, IsSomeAnd, ◌+◌, ◌-◌, ◌*◌, ◌<◌, ◌≤◌, ◌≢◌, true, false, IsTrue, Option, Some, None, List, [], ◌∷◌, ◌++◌, length, slice_set, replicate, sum_by, slice_index, fold}
use Rattle.tag_model.specs.declared.shape.Shape.{Shape}
use Rattle.tag_model.specs.declared.state.Tag.{Tag}
use Rattle.tag_model.specs.declared.state.Hand.{Hand}
use Rattle.tag_model.specs.declared.state.Held.{Held}
use Rattle.tag_model.specs.declared.state.Held.TheVariants as held
use Rattle.tag_model.specs.declared.state.Kind.{Kind}
use Rattle.tag_model.specs.declared.state.Run.{Run}
use Rattle.tag_model.specs.declared.state.CpuPart.{CpuPart}
use Rattle.tag_model.specs.declared.state.Part.{Part}
use Rattle.tag_model.specs.declared.state.Part.TheVariants.{Cpu, Place, Modules, NextId}
use Rattle.tag_model.specs.declared.limits.TheConstants.{SIZE_END}
use Rattle.tag_model.specs.Shape.{IsChecked}
use Rattle.tag_model.specs.Wrap.{wrap}
use Rattle.tag_model.specs.WordState.{word_place}
use Rattle.tag_model.specs.Laws.{Safe}
use Rattle.core_steps.specs.declared.op.Op.{Op}
use Rattle.cpu_ops.specs.declared.op.CpuOp.{CpuOp}
use Rattle.cpu_ops.specs.declared.op.CpuOp.TheVariants as by_cpu
use Rattle.module_ops.specs.declared.op.ManagerOp.{ManagerOp}
use Rattle.module_ops.specs.declared.op.ManagerOp.TheVariants as by_manager
use Rattle.core_steps.specs.declared.op.Op.TheVariants.{Open, Close, Split, Swap, Trim, Enter, Leave, Load, Unload, Clean}
use Rattle.module_ops.specs.declared.event.Event.{Event}
use Rattle.module_ops.specs.declared.event.Event.TheVariants.{Stepped}
use Rattle.core_steps.specs.declared.op.Actor.{Actor}
use Rattle.core_steps.specs.declared.op.Actor.TheVariants as actor
use Rattle.cpu_ops.specs.declared.refused.StepRefused.{StepRefused}
use Rattle.cpu_ops.specs.declared.op.TheConstants.{KEY_END}
use Rattle.cpu_ops.specs.Machine.{Machine, fresh_machine, hand_at, held_at, waiting_at, run_at, reserves, bytes_in, refusal_of, after_step, words_after, step_of, part_key, queued_on}
use Rattle.tag_model.specs.Reference.{is_counted}
use Rattle.cpu_ops.specs.MayQueue.{IsOp, IsModule}
use Rattle.module_ops.specs.Modules.{ModuleTable, inside_at, scene_at, manager_reads, modules_after, manager_refusal, managed, manager_event, is_nothing, word_in, words_at, with_managed, fresh_modules, IsManagerOp}
use Rattle.core_list.specs.ListState.{ListState, IsList, list_part, next_of}
use Rattle.module_area.specs.declared.entry.Entry.{Entry}
use Rattle.tag_section.specs.Section.{Section, tags_in}

pub record CoreState : Type 0 where
  pub shape : Shape
  pub sections : List Section
  pub machine : Machine
  pub words : List (List ℕ)
  pub modules : ModuleTable

-- ---- the word state

abbrev pub cpu_part : ℕ → Option Hand → List ℕ → List Run → CpuPart
cpu_part n hand words runs = record { number = n; words = words; hand = hand; runs = runs; notes = [] }

-- the CPUs, numbered from n on
abbrev pub cpu_parts : ℕ → List (Option Hand) → List (List ℕ) → (ℕ → List Run) → List Part
cpu_parts n [] words runs = []
cpu_parts n (hand ∷ hands) [] runs = []
cpu_parts n (hand ∷ hands) (words ∷ others) runs = Cpu (cpu_part n hand words (runs n)) ∷ cpu_parts (n + 1) hands others runs

-- the places, one for each key
abbrev pub place_parts : ℕ → List Held → List Part
place_parts n [] = []
place_parts n (held ∷ places) = Place n held ∷ place_parts (n + 1) places

-- the runs of a CPU
abbrev pub runs_in : List (Option Run) → List Run
runs_in [] = []
runs_in (None ∷ inside) = runs_in inside
runs_in (Some r ∷ inside) = r ∷ runs_in inside

-- the runs of each CPU
abbrev pub runs_of : ModuleTable → ℕ → List Run
runs_of ms cpu = runs_in (inside_at ms cpu)

-- the list and the next id
abbrev pub list_parts : ℕ → List Run → ListState → List Part
list_parts reads away list = Modules (list_part reads away list) ∷ NextId (list.last_id + 1) ∷ []

-- the whole state, after so many reads, with these runs on their way; a core keeps neither
unfoldable pub state_with : ℕ → List Run → Machine → List (List ℕ) → (ℕ → List Run) → ListState → List Part
state_with reads away m words runs list = cpu_parts 0 m.hands words runs ++ (place_parts 0 m.places ++ list_parts reads away list)

abbrev pub state_of : ℕ → Machine → List (List ℕ) → ModuleTable → List Part
state_of reads m words ms = state_with reads [] m words (runs_of ms) ms.list

-- the word state of a core, after so many reads
abbrev pub state_after : ℕ → CoreState → List Part
state_after reads s = state_of reads s.machine s.words s.modules

abbrev pub word_state : CoreState → List Part
word_state s = state_after 0 s

-- ---- what is refused, and what a step leaves

abbrev pub refused : CoreState → Actor → Option StepRefused
refused s (actor.Cpu cpu) = refusal_of s.machine (scene_at s.modules cpu) cpu
refused s actor.Manager = manager_refusal s.sections s.modules

abbrev pub words_stepped : Machine → List (Option Run) → List (List ℕ) → ℕ → List CpuOp → ℕ → List (List ℕ)
words_stepped m inside words cpu [] done = words
words_stepped m inside words cpu (op ∷ ops) done = slice_set words cpu (words_after (step_of op done (hand_at m cpu) m.places inside) (hand_at m cpu) (words_at words cpu))

abbrev pub words_after_step : Machine → List (Option Run) → List (List ℕ) → ℕ → List (List ℕ)
words_after_step m inside words cpu = let w = waiting_at m cpu in words_stepped m inside words cpu w.ops w.done

abbrev pub modules_stepped : Machine → ModuleTable → ℕ → List CpuOp → ℕ → ModuleTable
modules_stepped m ms cpu [] done = ms
modules_stepped m ms cpu (op ∷ ops) done = modules_after (step_of op done (hand_at m cpu) m.places (inside_at ms cpu)) ms cpu

-- the modules after the CPU's next step
abbrev pub modules_after_step : Machine → ModuleTable → ℕ → ModuleTable
modules_after_step m ms cpu = let w = waiting_at m cpu in modules_stepped m ms cpu w.ops w.done

abbrev pub stepped : CoreState → Actor → CoreState
stepped s (actor.Cpu cpu) = record s {
  machine = after_step s.machine (inside_at s.modules cpu) cpu;
  words = words_after_step s.machine (inside_at s.modules cpu) s.words cpu;
  modules = modules_after_step s.machine s.modules cpu;
}
stepped s actor.Manager = record s { modules = managed s.shape s.sections s.words s.modules }

-- what a step tells
abbrev pub event_of : CoreState → Actor → Event
event_of s (actor.Cpu cpu) = Stepped
event_of s actor.Manager = manager_event s.shape s.words s.modules

-- how many words a step reads for a sweep
abbrev pub reads_of : CoreState → Actor → ℕ
reads_of s (actor.Cpu cpu) = 0
reads_of s actor.Manager = manager_reads s.modules

-- ---- what may be queued

-- the op as one of a CPU, and as one of the manager
abbrev pub cpu_op : Op → Option CpuOp
cpu_op (Open key section index size) = Some (by_cpu.Open key section index size)
cpu_op (Close key) = Some (by_cpu.Close key)
cpu_op (Split key parts first) = Some (by_cpu.Split key parts first)
cpu_op (Swap one two) = Some (by_cpu.Swap one two)
cpu_op (Trim key bytes) = Some (by_cpu.Trim key bytes)
cpu_op (Enter section) = Some (by_cpu.Enter section)
cpu_op (Leave section) = Some (by_cpu.Leave section)
cpu_op other = None

abbrev pub manager_op : Op → Option ManagerOp
manager_op (Load section) = Some (by_manager.Load section)
manager_op (Unload section) = Some (by_manager.Unload section)
manager_op Clean = Some by_manager.Clean
manager_op other = None

-- an op of the actor
abbrev pub IsOpOf : List Section → Actor → Op → Type 0
IsOpOf sections (actor.Cpu number) op = IsSomeAnd (cpu_op op) (IsOp sections)
IsOpOf sections actor.Manager op = IsSomeAnd (manager_op op) (IsManagerOp sections)

-- the actor is one of the shape
abbrev pub IsActor : CoreState → Actor → Type 0
IsActor s (actor.Cpu cpu) = cpu < s.shape.cpus
IsActor s actor.Manager = Unit {0}

-- a CPU's op, and one of the manager, as an op
abbrev pub of_cpu : CpuOp → Op
of_cpu (by_cpu.Open key section index size) = Open key section index size
of_cpu (by_cpu.Close key) = Close key
of_cpu (by_cpu.Split key parts first) = Split key parts first
of_cpu (by_cpu.Swap one two) = Swap one two
of_cpu (by_cpu.Trim key bytes) = Trim key bytes
of_cpu (by_cpu.Enter section) = Enter section
of_cpu (by_cpu.Leave section) = Leave section

abbrev pub of_manager : ManagerOp → Op
of_manager (by_manager.Load section) = Load section
of_manager (by_manager.Unload section) = Unload section
of_manager by_manager.Clean = Clean

-- the ops that the actor has queued or under way
abbrev pub ops_of : CoreState → Actor → List Op
ops_of s (actor.Cpu number) = map of_cpu (waiting_at s.machine number).ops
ops_of s actor.Manager = map of_manager s.modules.manager.ops

abbrev pub queued_cpu : CoreState → ℕ → Option CpuOp → CoreState
queued_cpu s number None = s
queued_cpu s number (Some op) = record s { machine = queued_on s.machine number op }

abbrev pub queued_manager : CoreState → Option ManagerOp → CoreState
queued_manager s None = s
queued_manager s (Some op) = record s { modules = record s.modules { manager = with_managed s.modules.manager op } }

-- the op is the actor's last
abbrev pub queued : CoreState → Actor → Op → CoreState
queued s (actor.Cpu number) op = queued_cpu s number (cpu_op op)
queued s actor.Manager op = queued_manager s (manager_op op)

-- ---- what holds of a core

-- an allocation under way has in hand what it counted, and its place holds nothing yet
abbrev pub opening_hand : Tag → ℕ → Option Hand
opening_hand tag bytes = Some (record { tag = tag; bytes = bytes; calls = 1; opening = true })

-- it has counted its call, and so many bytes
pub record HoldsOpening (hand : Option Hand) (bytes : ℕ) : Type 0 where
  pub tag : Tag
  pub held : hand ≡ opening_hand tag bytes

pub record IsOpening (places : List Held) (hand : Option Hand) (key size done : ℕ) : Type 0 where
  pub within : done < 3
  pub start : done ≡ 0 → hand ≡ None
  pub begun : done ≡ 1 → HoldsOpening hand 0
  pub counted : done ≡ 2 → HoldsOpening hand size
  pub place : 0 < done → held_at places key ≡ held.None

-- a hand of so many bytes and calls, and of no allocation
abbrev pub settled_hand : Tag → ℕ → ℕ → Option Hand
settled_hand tag bytes calls = Some (record { tag = tag; bytes = bytes; calls = calls; opening = false })

-- a whole reference is in hand
pub record HoldsReference (hand : Option Hand) : Type 0 where
  pub tag : Tag
  pub size : ℕ
  pub some : 0 < size
  pub fits : size < SIZE_END
  pub held : hand ≡ settled_hand tag size 1

-- a call is in hand, its bytes are subtracted
pub record HoldsCall (hand : Option Hand) : Type 0 where
  pub tag : Tag
  pub held : hand ≡ settled_hand tag 0 1

-- a free under way has in hand what it hasn't subtracted yet
pub record IsClosing (hand : Option Hand) (done : ℕ) : Type 0 where
  pub within : done < 3
  pub start : done ≡ 0 → hand ≡ None
  pub cleared : done ≡ 1 → HoldsReference hand
  pub lowered : done ≡ 2 → HoldsCall hand

-- in hand are so many parts of a size, and so many calls
pub record HoldsParts (hand : Option Hand) (parts calls : ℕ) : Type 0 where
  pub tag : Tag
  pub size : ℕ
  pub some : 0 < size
  pub fits : parts * size < SIZE_END
  pub held : hand ≡ settled_hand tag (parts * size) calls

-- a split under way has all parts in hand while it adds their calls, and then those that it hasn't written yet, whose places are empty
pub record IsSplitting (places : List Held) (hand : Option Hand) (key parts first done : ℕ) : Type 0 where
  pub within : done < 2 * parts
  pub start : done ≡ 0 → hand ≡ None
  pub counting : 0 < done → done ≤ parts → HoldsParts hand parts done
  pub writing : parts ≤ done → HoldsParts hand (2 * parts - done) (2 * parts - done)
  pub empty : (part : ℕ) → 0 < done → done ≤ parts + part → part < parts → held_at places (part_key key first part) ≡ held.None

-- a swap under way has one of the references in hand; the first place is empty, and the second holds the other until it is exchanged
pub record IsSwapping (places : List Held) (hand : Option Hand) (one two done : ℕ) : Type 0 where
  pub within : done < 3
  pub start : done ≡ 0 → hand ≡ None
  pub in_hand : 0 < done → HoldsReference hand
  pub first : 0 < done → held_at places one ≡ held.None
  pub second : done ≡ 1 → is_counted (held_at places two) ≡ true

-- a trim under way has the reference in hand, with more bytes than it takes away until it has taken them
pub record IsTrimming (places : List Held) (hand : Option Hand) (key bytes done : ℕ) : Type 0 where
  pub within : done < 3
  pub start : done ≡ 0 → hand ≡ None
  pub in_hand : 0 < done → HoldsReference hand
  pub more : done ≡ 1 → bytes < bytes_in hand
  pub place : 0 < done → held_at places key ≡ held.None

-- an op of one step isn't begun
pub record IsWaiting (hand : Option Hand) (done : ℕ) : Type 0 where
  pub within : done < 1
  pub start : done ≡ 0 → hand ≡ None

-- the hand and the places of an op after so many of its steps
abbrev pub IsUnderWay : List Held → Option Hand → CpuOp → ℕ → Type 0
IsUnderWay places hand (by_cpu.Open key section index size) done = IsOpening places hand key size done
IsUnderWay places hand (by_cpu.Close key) done = IsClosing hand done
IsUnderWay places hand (by_cpu.Split key parts first) done = IsSplitting places hand key parts first done
IsUnderWay places hand (by_cpu.Swap one two) done = IsSwapping places hand one two done
IsUnderWay places hand (by_cpu.Trim key bytes) done = IsTrimming places hand key bytes done
IsUnderWay places hand (by_cpu.Enter section) done = IsWaiting hand done
IsUnderWay places hand (by_cpu.Leave section) done = IsWaiting hand done

-- a CPU's hand fits what it does, and its ops may be queued
abbrev pub IsReady : List Section → List Held → Option Hand → List CpuOp → ℕ → Type 0
IsReady sections places hand [] done = (hand ≡ None) × (done ≡ 0)
IsReady sections places hand (op ∷ ops) done = IsUnderWay places hand op done × IsOp sections op × AllByRecursion (IsOp sections) ops

abbrev pub IsReadyAt : List Section → Machine → ℕ → Type 0
IsReadyAt sections m cpu = let w = waiting_at m cpu in IsReady sections m.places (hand_at m cpu) w.ops w.done

-- the machine is of the shape, each CPU is ready, and no key is reserved by two
pub record IsMachine (cpus : ℕ) (sections : List Section) (m : Machine) : Type 0 where
  pub hands : length m.hands ≡ cpus
  pub waiting : length m.waiting ≡ cpus
  pub places : length m.places ≡ KEY_END
  pub ready : (cpu : ℕ) → cpu < cpus → IsReadyAt sections m cpu
  pub apart : (i j key : ℕ) → i < cpus → j < cpus → i ≢ j → IsTrue (reserves key (waiting_at m i)) → IsTrue (reserves key (waiting_at m j)) → ⊥

-- a run stands at its section, and has the section's tags, which are tags of the shape
pub record RunFits (k : Shape) (sections : List Section) (section : ℕ) (r : Run) : Type 0 where
  pub some_id : 0 < r.id
  pub of_section : r.section ≡ section
  pub all_tags : r.length ≡ tags_in sections section
  pub in_shape : r.start + r.length ≤ k.tags

-- an entry is of a module's section, and has the section's tags
pub record EntryFits (sections : List Section) (e : Entry) : Type 0 where
  pub of_module : IsModule sections e.section
  pub all_tags : e.length ≡ tags_in sections e.section

pub record AreModules (k : Shape) (sections : List Section) (ms : ModuleTable) : Type 0 where
  pub cpus : length ms.inside ≡ k.cpus
  pub slots : (cpu : ℕ) → cpu < k.cpus → length (inside_at ms cpu) ≡ length sections
  pub runs : (cpu section : ℕ) (r : Run) → run_at (inside_at ms cpu) section ≡ Some r → RunFits k sections section r
  pub list : IsList ms.list
  pub first : ms.list.area.first ≡ k.kernel_tags
  pub tags : ms.list.area.first + ms.list.area.tags ≡ k.tags
  pub entries : All (EntryFits sections) ms.list.area.entries
  pub ops : AllByRecursion (IsManagerOp sections) ms.manager.ops
  -- an op that is under way is there, and has something left to read or to release
  pub some_op : ms.manager.under_way ≡ true → ms.manager.ops ≢ []
  pub goes_on : ms.manager.under_way ≡ true → is_nothing (next_of ms.list.sweep) ≡ false
  -- where none is, there is nothing to read and nothing to release
  pub at_rest : ms.manager.under_way ≡ false → is_nothing (next_of ms.list.sweep) ≡ true

-- there is the kernel's section, which fits, and each section has a tag
pub record SectionsFitShape (k : Shape) (sections : List Section) : Type 0 where
  pub kernel : 0 < length sections
  pub kernel_fits : tags_in sections 0 ≤ k.kernel_tags
  pub some_tag : (section : ℕ) → section < length sections → 1 ≤ tags_in sections section

pub record IsCore (s : CoreState) : Type 0 where
  pub shape : IsChecked s.shape
  pub sections : SectionsFitShape s.shape s.sections
  pub machine : IsMachine s.shape.cpus s.sections s.machine
  pub words : length s.words ≡ s.shape.cpus
  pub own_words : (cpu : ℕ) → cpu < s.shape.cpus → length (words_at s.words cpu) ≡ 2 * s.shape.tags
  pub modules : AreModules s.shape s.sections s.modules
  pub safe : Safe s.shape (word_state s)

-- ---- a fresh core

abbrev pub fresh : Shape → List Section → CoreState
fresh shape sections = record {
  shape = shape;
  sections = sections;
  machine = fresh_machine shape.cpus;
  words = replicate shape.cpus (replicate (2 * shape.tags) 0);
  modules = fresh_modules shape (length sections);
}

-- ---- totals

-- the words of a kind of a tag, added over the CPUs, wrapped
abbrev pub total_of : List (List ℕ) → Kind → ℕ → ℕ
total_of words kind tag = wrap (sum_by (λ (own : List ℕ). slice_index own (word_place kind tag)) words)

-- the CPU's word of a kind for a tag
abbrev pub word_at : List (List ℕ) → ℕ → Kind → ℕ → ℕ
word_at words cpu kind tag = word_in words cpu kind tag

-- ---- runs

-- the core after a step of each of these actors, one after another
abbrev pub run_of : CoreState → List Actor → CoreState
run_of s actors = fold stepped s actors
