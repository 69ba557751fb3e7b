-- What tokens tell of one another once their parts have stood together.
use Rattle.std.specs.Prelude.{ℕ, ◌+◌, ◌≤◌, ◌==◌, nat_lt, IsTrue, List, [], ◌∷◌, ◌++◌, map, count_by, sum_by}
use Rattle.std.specs.List.{All, list_all, list_any}
use Rattle.tag_model.specs.declared.shape.Shape.{Shape}
use Rattle.tag_model.specs.declared.state.CpuPart.{CpuPart}
use Rattle.tag_model.specs.declared.state.ListPart.{ListPart}
use Rattle.tag_model.specs.declared.state.Note.{Note}
use Rattle.tag_model.specs.declared.state.Part.{Part}
use Rattle.tag_model.specs.declared.state.Part.TheVariants.{Cpu}
use Rattle.tag_model.specs.declared.state.Record.{Record}
use Rattle.tag_model.specs.declared.state.Run.{Run}
use Rattle.tag_model.specs.Laws.{Safe, ids_of, is_loaded_as, note_of, rises_from}
use Rattle.tag_model.specs.Shape.{IsChecked}
use Rattle.tag_model.specs.StepRules.{Stands}
use Rattle.tag_model.specs.Telling.{is_as_noted}
use Rattle.tag_model.specs.WordState.{in_range, record_fits}
use Rattle.tag_rule.specs.Runs.{is_on}
use Rattle.tag_rule.specs.Shown.{CpuShown}

-- the parts stand together in some safe state
pub record StandSafe (k : Shape) (v : List Part) : Type 0 where
  pub state : List Part
  pub checked : IsChecked k
  pub stands : Stands v state
  pub safe : Safe k state

-- ---- the cover law between the module list, the next id and all CPUs

-- each run names a loaded record, and agrees with it
abbrev pub AreLoaded : ListPart → List Run → Type 0
AreLoaded list runs = IsTrue (list_all (λ run. list_any (is_loaded_as run) list.records) runs)

-- at most one run on an id, and each run's record is loaded; each note's id was given, and the record of that id is as the note tells
pub record IsMetCpu (list : ListPart) (next : ℕ) (c : CpuPart) : Type 0 where
  pub one_run : (id : ℕ) → count_by (is_on id) c.runs ≤ 1
  pub loaded : AreLoaded list c.runs
  pub given : IsTrue (list_all (λ (n : Note). nat_lt n.id next) c.notes)
  pub agree : IsTrue (list_all (λ (n : Note). list_all (is_as_noted n) list.records) c.notes)

-- the runs on the id
abbrev pub runs_on : ℕ → ListPart → List CpuShown → ℕ
runs_on id list cpus = count_by (is_on id) list.away + sum_by (λ (c : CpuShown). count_by (is_on id) c.part.runs) cpus

-- the records' ids rise, above 0 and below the next one, and their ranges have a tag each, lie in the area and are apart; a record's users are the runs on it
pub record AreMet (k : Shape) (list : ListPart) (next : ℕ) (cpus : List CpuShown) : Type 0 where
  pub rise : IsTrue (rises_from 0 (ids_of list.records))
  pub below : IsTrue (list_all (λ (r : Record). nat_lt r.id next) list.records)
  pub fit : IsTrue (list_all (record_fits k) list.records)
  pub apart : (t : ℕ) → count_by (λ (r : Record). in_range r.start r.length t) list.records ≤ 1
  pub users : IsTrue (list_all (λ (r : Record). r.users == runs_on r.id list cpus) list.records)
  pub loaded : AreLoaded list list.away
  pub each : All (λ (c : CpuShown). IsMetCpu list next c.part) cpus

-- ---- the notes that the first CPU takes

abbrev pub with_notes : List Record → CpuShown → CpuShown
with_notes records cpu = record cpu { part = record cpu.part { notes = map note_of records ++ cpu.part.notes } }

-- the first CPU has a note of each record
abbrev pub first_notes : List Record → List CpuShown → List CpuShown
first_notes records [] = []
first_notes records (cpu ∷ cpus) = with_notes records cpu ∷ cpus

-- ---- all parts together

-- the parts, with those of the CPUs one by one put before them
abbrev pub stacked : List CpuShown → List Part → List Part
stacked [] parts = parts
stacked (cpu ∷ cpus) parts = stacked cpus (Cpu cpu.part ∷ parts)
