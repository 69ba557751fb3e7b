-- Runs that go from the module list to a CPU and back, and what the cover law says of them between the two.
use Rattle.std.specs.Prelude.{ℕ, ◌+◌, ◌==◌, ◌&&◌, not, nat_le, Bool, List, filter, count_by}
use Rattle.tag_model.specs.declared.shape.Shape.{Shape}
use Rattle.tag_model.specs.declared.state.CpuPart.{CpuPart}
use Rattle.tag_model.specs.declared.state.ListPart.{ListPart}
use Rattle.tag_model.specs.declared.state.Record.{Record}
use Rattle.tag_model.specs.declared.state.Run.{Run}
use Rattle.tag_model.specs.Laws.{is_loaded_as}
use Rattle.tag_rule.specs.Shown.{CpuShown, ListShown}

abbrev pub is_on : ℕ → Run → Bool
is_on id r = r.id == id

-- the runs on other ids
abbrev pub other_runs : ℕ → List Run → List Run
other_runs id runs = filter (λ (r : Run). not (r.id == id)) runs

abbrev pub with_away : List Run → ListShown → ListShown
with_away away list = record list { part = record list.part { away = away } }

abbrev pub with_runs : List Run → CpuShown → CpuShown
with_runs runs cpu = record cpu { part = record cpu.part { runs = runs } }

-- the runs on the id that the list and the CPU have
abbrev pub runs_between : ℕ → ListPart → CpuPart → ℕ
runs_between id list cpu = count_by (is_on id) list.away + count_by (is_on id) cpu.runs

-- the record of the run: loaded, and alike in section, start and length; its users are at least the runs that the two have, and at most the CPUs and the runs on their way
abbrev pub covers_run : Shape → Run → ListPart → CpuPart → Record → Bool
covers_run k run list cpu r = is_loaded_as run r && nat_le (runs_between run.id list cpu) r.users && nat_le r.users (k.cpus + count_by (is_on run.id) list.away)
