-- Which CPUs are inside modules, and what they have noted of them.
use Rattle.std.specs.Prelude.{◌≡◌, ℕ, ◌-◌, if◌then◌else◌, List, [], ◌++◌, map, take, drop, replicate, length, All, Any}
use Rattle.tag_model.specs.declared.state.Note.{Note}
use Rattle.tag_model.specs.declared.state.Run.{Run}
use Rattle.module_area.specs.declared.entry.Entry.{Entry}
use Rattle.module_area.specs.Entries.{is_dead}
use Rattle.tag_rule.specs.Runs.{other_runs, with_runs}
use Rattle.tag_rule.specs.Shown.{CpuShown}

abbrev pub runs_in : CpuShown → List Run
runs_in c = c.part.runs

abbrev pub notes_in : CpuShown → List Note
notes_in c = c.part.notes

-- the CPU's number, words and hand alone
abbrev pub outside : CpuShown → CpuShown
outside c = record c { part = record c.part { runs = []; notes = [] } }

-- so many of the first CPUs come in
abbrev pub come_in : ℕ → List Run → List CpuShown → List CpuShown
come_in inside runs cpus = map (with_runs runs) (take inside cpus) ++ drop inside cpus

-- so many of the first CPUs have these runs, and the others none
abbrev pub AreInside : ℕ → List Run → List CpuShown → Type 0
AreInside inside runs cpus = map runs_in cpus ≡ replicate inside runs ++ replicate (length cpus - inside) []

-- the note has the entry's id, section and range
abbrev pub IsNoteOf : Entry → Note → Type 0
IsNoteOf e n = (n.id ≡ e.id) × (n.section ≡ e.section) × (n.start ≡ e.start) × (n.length ≡ e.length)

-- a CPU has a note of each entry
abbrev pub AreNoted : List Entry → List CpuShown → Type 0
AreNoted known cpus = All (λ e. Any (λ c. Any (IsNoteOf e) c.part.notes) cpus) known

-- the runs without that on the entry, if it stays loaded
abbrev pub left_runs : Entry → List Run → List Run
left_runs e runs = if is_dead e.state then runs else other_runs e.id runs
