-- What is written for an input, and the status.
use Rattle.std.specs.Prelude.{◌≡◌, ◌≢◌, ℕ, ◌++◌, ◌+◌, ◌≤◌, ◌⊎◌, ⊤, Bool, Option, Some, None, Result, Ok, Err, List, [], ◌∷◌, length, codes, decimal, nat_lt, if◌then◌else◌}
use Rattle.std.specs.Str.{bytes_eq}
use Rattle.std.specs.Io.KnownBytes.{Appends, Consumes, IsAtEnd}
use Rattle.outside.specs.Bytes.{AppendsPrefix}
use Rattle.outside.specs.Faults.{Rose}
use Rattle.tag_section.specs.Section.{names_of}
use Rattle.text_form.specs.Lines.{lines_of}
use Rattle.input_form.specs.declared.code.Code.{Code}
use Rattle.step_text.specs.declared.steps.Steps.{Steps}
use Rattle.trace.specs.declared.traces.Trace.{Trace}
use Rattle.step_text.specs.StepReading.{steps_of}
use Rattle.trace.specs.TraceReading.{trace_of}
use Rattle.round_check.specs.Walk.{rounds_of}
use Rattle.info_read.specs.declared.row.InfoRow.{InfoRow}
use Rattle.info_read.specs.Reading.{rows_of}
use Rattle.info_group.specs.declared.group.Group.{Group}
use Rattle.info_group.specs.Grouping.{groups_of}
use Rattle.info_group.specs.Keys.{file_key, module_key}
use Rattle.info_group.specs.Text.{groups_text}
use Rattle.step_play.specs.Schedule.{Played, schedule_of}
use Rattle.trace_play.specs.Answer.{refusal_text}
use Rattle.profile_top.specs.declared.answer.Answer.{Answer}
use Rattle.profile_top.specs.declared.mode.Mode.{Mode}
use Rattle.profile_top.specs.declared.mode.Mode.TheVariants as mode

pub record Written : Type 0 where
  pub status : ℕ
  pub text : List ℕ

abbrev pub refused : List (List ℕ) → ℕ × Code → Written
refused names why = record { status = 1; text = refusal_text names why.0 why.1 }

abbrev pub too_long : Written
too_long = record { status = 1; text = codes "input too long\n" }

-- ---- `step`

abbrev pub played : List (List ℕ) → Result Played (ℕ × Code) → Written
played names (Ok p) = record { status = 0; text = p.text }
played names (Err why) = refused names why

abbrev pub step_played : Steps → Written
step_played steps = played (names_of steps.sections) (schedule_of steps)

abbrev pub step_read : Result Steps (ℕ × Code) → Written
step_read (Ok steps) = step_played steps
step_read (Err why) = refused [] why

-- ---- `check`

-- `ok lines N`
unfoldable pub ok_text : ℕ → List ℕ
ok_text count = codes "ok lines " ++ decimal count ++ codes "\n"

abbrev pub all_well : List ℕ → Written
all_well input = record { status = 0; text = ok_text (length (lines_of input)) }

abbrev pub first_of : List (List ℕ) → List ℕ
first_of [] = []
first_of (line ∷ lines) = line

-- a schedule, by its first line; all else is read as a trace
abbrev pub is_schedule : List ℕ → Bool
is_schedule input = bytes_eq (first_of (lines_of input)) (codes "memprof-steps 1.0")

abbrev pub steps_checked : List ℕ → Result Steps (ℕ × Code) → Written
steps_checked input (Ok steps) = all_well input
steps_checked input (Err why) = refused [] why

abbrev pub rounds_checked : List ℕ → Trace → Result ⊤ (ℕ × Code) → Written
rounds_checked input trace (Ok done) = all_well input
rounds_checked input trace (Err why) = refused (names_of trace.sections) why

abbrev pub trace_checked : List ℕ → Result Trace (ℕ × Code) → Written
trace_checked input (Ok trace) = rounds_checked input trace (rounds_of trace)
trace_checked input (Err why) = refused [] why

abbrev pub checked : List ℕ → Written
checked input = if is_schedule input then steps_checked input (steps_of input) else trace_checked input (trace_of input)

-- ---- `files` and `modules`

-- `line N: info`
unfoldable pub info_refusal_text : ℕ → List ℕ
info_refusal_text line = codes "line " ++ decimal line ++ codes ": info\n"

abbrev pub info_refused : ℕ → Written
info_refused line = record { status = 1; text = info_refusal_text line }

abbrev pub listed : List Group → Written
listed groups = record { status = 0; text = groups_text groups }

-- the groups of the rows by a key, or the first line that isn't of the form of allocinfo
abbrev pub grouped : (InfoRow → List ℕ) → Result (List InfoRow) ℕ → Written
grouped key (Ok rows) = listed (groups_of key rows)
grouped key (Err line) = info_refused line

-- ---- all

abbrev pub answer_in : Mode → List ℕ → Written
answer_in mode.Step input = step_read (steps_of input)
answer_in mode.Files input = grouped file_key (rows_of input)
answer_in mode.Modules input = grouped module_key (rows_of input)
answer_in mode.Check input = checked input

-- the most bytes of an input
abbrev pub input_limit : ℕ
input_limit = 4194304

-- what is written for an input
abbrev pub answer_of : Mode → List ℕ → Written
answer_of mode input = if nat_lt input_limit (length input) then too_long else answer_in mode input

-- the one word of the command line
abbrev pub info_word : List ℕ → Option Mode
info_word word = if bytes_eq word (codes "files") then Some mode.Files else (if bytes_eq word (codes "modules") then Some mode.Modules else None)

abbrev pub mode_word : List ℕ → Option Mode
mode_word word = if bytes_eq word (codes "step") then Some mode.Step else (if bytes_eq word (codes "check") then Some mode.Check else info_word word)

abbrev pub mode_of : List (List ℕ) → Option Mode
mode_of [] = None
mode_of (word ∷ []) = mode_word word
mode_of (word ∷ other ∷ others) = None

-- ---- what calls leave

-- a call gave this answer
pub record Gives (answer : Answer) (written : Written) : Type 0 where
  pub status : answer.status ≡ written.status
  pub text : answer.text.items ≡ written.text

-- the input that was read: all of it, or one byte more than is read
pub record IsInput (old new : Option (List ℕ)) (input : List ℕ) : Type 0 where
  pub taken : Consumes old new input
  pub whole : IsAtEnd new ⊎ (length input ≡ input_limit + 1)

-- the status and the bytes that went out are those of the input
pub record Served (mode : Mode) (status : ℕ) (left left_after taken taken_after : Option (List ℕ)) : Type 0 where
  pub input : List ℕ
  pub is_input : IsInput left left_after input
  pub told : status ≡ (answer_of mode input).status
  pub written : Appends taken taken_after (answer_of mode input).text

-- the bytes that went out are the first of those of the input
pub record ServedInPart (mode : Mode) (left left_after taken taken_after : Option (List ℕ)) : Type 0 where
  pub input : List ℕ
  pub is_input : IsInput left left_after input
  pub written : AppendsPrefix taken taken_after (answer_of mode input).text

-- A status tells of one side's faults: where it is this one, the count of faults rose, and at every other the count is
-- as it was. It never falls.
pub record TellsFaults (this status count count_after : ℕ) : Type 0 where
  pub rose : status ≡ this → Rose count count_after
  pub steady : status ≢ this → count_after ≡ count
  pub kept : count ≤ count_after
