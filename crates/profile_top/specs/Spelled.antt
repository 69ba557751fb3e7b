-- What the top call serves, once more, on one page: what was read, what went out for it, and the status.
use Rattle.std.specs.Prelude.{◌≡◌, ◌≢◌, ℕ, ◌<◌, ◌≤◌, ◌⊎◌, ◌++◌, List, [], ◌∷◌, Option, None, MatchResult, length, take, codes, decimal}
use Rattle.std.specs.Io.KnownBytes.{Appends, Consumes, IsAtEnd}
use Rattle.tag_section.specs.Section.{names_of}
use Rattle.text_form.specs.Lines.{lines_of}
use Rattle.input_form.specs.declared.code.Code.{Code}
use Rattle.input_form.specs.Codes.{code_text}
use Rattle.step_text.specs.StepReading.{steps_of}
use Rattle.trace.specs.TraceReading.{trace_of}
use Rattle.round_check.specs.Walk.{rounds_of}
use Rattle.step_play.specs.Schedule.{schedule_of}
use Rattle.trace_play.specs.Play.{trace_text}
use Rattle.info_read.specs.declared.row.InfoRow.{InfoRow}
use Rattle.info_read.specs.Reading.{rows_of}
use Rattle.info_group.specs.Grouping.{groups_of}
use Rattle.info_group.specs.Text.{groups_text}

-- Some input was read, to its end or one byte past the limit, and some text went out for it. Of an input that is too
-- long the status is 1, and else status and text are what the command says.
pub record ServedBy (says : List ℕ → ℕ → List ℕ → Type 0) (status : ℕ) (left left_after taken taken_after : Option (List ℕ)) : Type 0 where
  pub input : List ℕ
  pub text : List ℕ
  pub read : Consumes left left_after input
  pub whole : IsAtEnd left_after ⊎ (length input ≡ 4194305)
  pub sent : Appends taken taken_after text
  pub long : 4194304 < length input → (status ≡ 1) × (text ≡ codes "input too long\n")
  pub short : length input ≤ 4194304 → says input status text

-- The same where writing failed: the text is what was to go out, its first bytes are what went out, and the status is
-- the one that it stands for.
pub record SentInPart (says : List ℕ → ℕ → List ℕ → Type 0) (left left_after taken taken_after : Option (List ℕ)) : Type 0 where
  pub input : List ℕ
  pub status : ℕ
  pub text : List ℕ
  pub count : ℕ
  pub read : Consumes left left_after input
  pub whole : IsAtEnd left_after ⊎ (length input ≡ 4194305)
  pub sent : Appends taken taken_after (take count text)
  pub long : 4194304 < length input → (status ≡ 1) × (text ≡ codes "input too long\n")
  pub short : length input ≤ 4194304 → says input status text

-- status 0, and this text
abbrev pub Accepts : List ℕ → ℕ → List ℕ → Type 0
Accepts printed status text = (status ≡ 0) × (text ≡ printed)

-- status 1, and `line N: CODE`
abbrev pub Refuses : List (List ℕ) → ℕ × Code → ℕ → List ℕ → Type 0
Refuses names why status text = (status ≡ 1) × (text ≡ codes "line " ++ decimal why.0 ++ codes ": " ++ code_text names why.1 ++ codes "\n")

-- `step`: a schedule that is of its form is played
abbrev pub StepSays : List ℕ → ℕ → List ℕ → Type 0
StepSays input status text =
    MatchResult (steps_of input)
    (λ steps. MatchResult (schedule_of steps) (λ p. Accepts p.text status text) (λ why. Refuses (names_of steps.sections) why status text))
    (λ why. Refuses [] why status text)

-- `ok lines N`
abbrev pub IsWell : List ℕ → ℕ → List ℕ → Type 0
IsWell input status text = Accepts (codes "ok lines " ++ decimal (length (lines_of input)) ++ codes "\n") status text

-- `check`: a schedule is told by its first line, and all else is read as a trace, whose rounds are checked
pub record CheckSays (input : List ℕ) (status : ℕ) (text : List ℕ) : Type 0 where
  pub schedule : (rest : List (List ℕ)) → lines_of input ≡ codes "memprof-steps 1.0" ∷ rest
      → MatchResult (steps_of input) (λ steps. IsWell input status text) (λ why. Refuses [] why status text)
  pub trace : ((rest : List (List ℕ)) → lines_of input ≢ codes "memprof-steps 1.0" ∷ rest)
      → MatchResult (trace_of input)
      (λ trace. MatchResult (rounds_of trace) (λ done. IsWell input status text) (λ why. Refuses (names_of trace.sections) why status text))
      (λ why. Refuses [] why status text)

-- `files` and `modules`: the rows of allocinfo in groups
abbrev pub GroupsSay : (InfoRow → List ℕ) → List ℕ → ℕ → List ℕ → Type 0
GroupsSay key input status text =
    MatchResult (rows_of input)
    (λ rows. Accepts (groups_text (groups_of key rows)) status text)
    (λ line. (status ≡ 1) × (text ≡ codes "line " ++ decimal line ++ codes ": info\n"))

-- `run`: a trace that is of its form, and whose rounds are as they may be, is run
abbrev pub RunSays : List ℕ → ℕ → List ℕ → Type 0
RunSays input status text =
    MatchResult (trace_of input)
    (λ trace. MatchResult (rounds_of trace)
    (λ done. MatchResult (trace_text trace None) (λ printed. Accepts printed status text) (λ why. Refuses (names_of trace.sections) why status text))
    (λ why. Refuses (names_of trace.sections) why status text))
    (λ why. Refuses [] why status text)
