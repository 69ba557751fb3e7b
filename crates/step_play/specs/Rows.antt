-- Worked schedules, as the lines that are read from them, and what they come to.
use Rattle.std.specs.Prelude.{ℕ, ◌+◌, Some, None, Result, Ok, Err, List, [], ◌∷◌, codes}
use Rattle.tag_section.specs.Section.{Section}
use Rattle.input_form.specs.declared.code.Code.{Code}
use Rattle.step_text.specs.declared.steps.StepAct.{StepAct}
use Rattle.step_text.specs.declared.steps.StepAct.TheVariants.{Do, Go, Print, Words}
use Rattle.step_text.specs.declared.steps.StepActor.{StepActor}
use Rattle.step_text.specs.declared.steps.StepActor.TheVariants.{Cpu, Manager}
use Rattle.step_text.specs.declared.steps.StepOp.TheVariants.{Open, Close, Split, Enter, Leave, Load, Unload, Clean}
use Rattle.step_text.specs.declared.steps.StepLine.{StepLine}
use Rattle.step_text.specs.declared.steps.Steps.{Steps}
use Rattle.step_play.specs.Schedule.{Played, schedule_of}

-- what a schedule writes, or the line that is refused and why
abbrev pub written : Result Played (ℕ × Code) → Result (List ℕ) (ℕ × Code)
written (Ok p) = Ok p.text
written (Err why) = Err why

abbrev pub written_by : Steps → Result (List ℕ) (ℕ × Code)
written_by steps = written (schedule_of steps)

-- the acts as lines, numbered from a line on
abbrev pub lines_from : ℕ → List StepAct → List StepLine
lines_from line [] = []
lines_from line (act ∷ acts) = record { line = line; act = act } ∷ lines_from (line + 1) acts

-- so many steps of an actor
abbrev pub takes : StepActor → ℕ → StepAct
takes who n = Go who (Some n)

-- ---- a schedule of the kernel alone: its three lines, and the acts from line 4 on

-- `mm/a.c:10 func:fa`
abbrev pub kernel : Section
kernel = record { name = codes "kernel"; tags = record { file = codes "mm/a.c"; line = 10; function = codes "fa" } ∷ [] }

abbrev pub of_kernel : List StepAct → Steps
of_kernel acts = record { cpus = 4; area = 896; sections = kernel ∷ []; body = lines_from 4 acts }

abbrev pub one_allocation : Steps
one_allocation = of_kernel (Do (Cpu 0) (Open 1 0 0 4096) ∷ takes (Cpu 0) 3 ∷ Print ∷ [])

abbrev pub remote_free_words : Steps
remote_free_words = of_kernel (
    Do (Cpu 0) (Open 1 0 0 4096) ∷ takes (Cpu 0) 3 ∷ Do (Cpu 1) (Close 1) ∷ takes (Cpu 1) 3 ∷ Print ∷ Words 0 0 ∷ [])

abbrev pub split_counts : Steps
split_counts = of_kernel (
    Do (Cpu 0) (Open 1 0 0 16384) ∷ Do (Cpu 0) (Split 1 4 2) ∷ takes (Cpu 0) 11 ∷ Print ∷ Do (Cpu 0) (Close 2) ∷ takes (Cpu 0) 3 ∷ Print ∷ [])

-- ---- a schedule of two modules: its eight lines, and the acts from line 9 on, of which the first two load `ext`

abbrev pub ext : Section
ext = record { name = codes "ext"; tags = record { file = codes "m/x.c"; line = 5; function = codes "fx" } ∷ [] }

abbrev pub two : Section
two = record { name = codes "two"; tags = record { file = codes "m/y.c"; line = 7; function = codes "fy" } ∷ [] }

abbrev pub sections : List Section
sections = kernel ∷ ext ∷ two ∷ []

abbrev pub of_modules : List StepAct → Steps
of_modules acts = record { cpus = 2; area = 896; sections = sections; body = lines_from 9 (Do Manager (Load 1) ∷ takes Manager 1 ∷ acts) }

-- a CPU goes into `ext`, allocates so many bytes there under key 1, and leaves
abbrev pub allocates_in_ext : ℕ → ℕ → List StepAct → List StepAct
allocates_in_ext cpu size acts =
    Do (Cpu cpu) (Enter 1) ∷ Do (Cpu cpu) (Open 1 1 0 size) ∷ Do (Cpu cpu) (Leave 1) ∷ takes (Cpu cpu) 5 ∷ acts

abbrev pub split_race : Steps
split_race = of_modules (allocates_in_ext 1 8192 (
    Do Manager (Unload 1) ∷ takes Manager 2 ∷ Do (Cpu 0) (Split 1 2 2) ∷ takes (Cpu 0) 4 ∷ Do (Cpu 1) (Close 2) ∷ takes (Cpu 1) 3 ∷ Go Manager None ∷ []))

-- a free stands before its last step while `ext` is unloaded
abbrev pub free_under_way : List StepAct → Steps
free_under_way acts = of_modules (allocates_in_ext 0 64 (
    Do (Cpu 1) (Close 1) ∷ takes (Cpu 1) 2 ∷ Do Manager (Unload 1) ∷ Go Manager None ∷ acts))

abbrev pub free_in_progress : Steps
free_in_progress = free_under_way []

abbrev pub clean_after_kept : Steps
clean_after_kept = free_under_way (takes (Cpu 1) 1 ∷ Do Manager Clean ∷ takes Manager 6 ∷ [])

abbrev pub range_used_again : Steps
range_used_again = of_modules (allocates_in_ext 1 8192 (
    Do (Cpu 0) (Split 1 2 2) ∷ takes (Cpu 0) 4 ∷ Do (Cpu 1) (Close 1) ∷ Do (Cpu 1) (Close 2) ∷ takes (Cpu 1) 6 ∷ Do Manager (Unload 1) ∷ Go Manager None
    ∷ Do Manager (Load 2) ∷ takes Manager 1 ∷ Do (Cpu 0) (Enter 2) ∷ Do (Cpu 0) (Open 3 2 0 100) ∷ takes (Cpu 0) 4 ∷ Print ∷ Words 2 0 ∷ []))

-- ---- the same modules in an area of one tag: the acts from line 10 on

abbrev pub loads_twice : ℕ → Steps
loads_twice second =
    record { cpus = 2; area = 1; sections = sections; body = lines_from 10 (Do Manager (Load 1) ∷ Do Manager (Load second) ∷ takes Manager 1 ∷ takes Manager 1 ∷ []) }
