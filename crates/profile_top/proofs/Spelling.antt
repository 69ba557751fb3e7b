-- What is served is what is spelled out.
use Rattle.std.proofs.Common.{◌≡◌, ◌≢◌, ℕ, List, [], ◌∷◌, ap, ◌∙◌, refl, Option, Bool, true, false, codes, Result, Ok, Err}
use Rattle.std.specs.Prelude.{⊤, MatchResult, if◌then◌else◌}
use Rattle.std.specs.Cmp.Lexicographic.{bytes_decides}
use Rattle.std.specs.Io.KnownBytes.{Appends}
use Rattle.outside.specs.Bytes.{AppendsPrefix}
use Rattle.std.specs.Str.{bytes_eq}
use Rattle.tag_section.specs.Section.{names_of}
use Rattle.text_form.specs.Lines.{lines_of}
use Rattle.input_form.specs.declared.code.Code.{Code}
use Rattle.step_text.specs.declared.steps.Steps.{Steps}
use Rattle.trace.specs.declared.traces.Trace.{Trace}
use Rattle.step_text.specs.StepReading.{steps_of}
use Rattle.trace.specs.TraceReading.{trace_of}
use Rattle.round_check.specs.Walk.{rounds_of}
use Rattle.step_play.specs.Schedule.{Played, schedule_of}
use Rattle.trace_play.specs.Answer.{refusal_text}
use Rattle.info_read.specs.declared.row.InfoRow.{InfoRow}
use Rattle.info_read.specs.Reading.{rows_of}
use Rattle.info_group.specs.Grouping.{groups_of}
use Rattle.info_group.specs.Text.{groups_text}
use Rattle.profile_top.specs.declared.mode.Mode.{Mode}
use Rattle.profile_top.specs.Answers.{IsInput, Served, ServedInPart, Written, answer_in, checked, first_of, grouped, is_schedule, played, rounds_checked, step_read, steps_checked, trace_checked, ok_text, info_refusal_text}
use Rattle.profile_top.specs.Spelled.{ServedBy, SentInPart, Accepts, Refuses, IsWell, StepSays, CheckSays, GroupsSay}
use Rattle.profile_top.proofs.Serving.{limited, long_answer, short_answer}

-- ---- each command

played_says : (names : List (List ℕ)) (r : Result Played (ℕ × Code)) (status : ℕ) (text : List ℕ) → status ≡ (played names r).status → text ≡ (played names r).text
    → MatchResult r (λ p. Accepts p.text status text) (λ why. Refuses names why status text)
unfolding refusal_text
played_says names (Ok p) status text s t = (s, t)
played_says names (Err why) status text s t = (s, t)

read_says : (r : Result Steps (ℕ × Code)) (status : ℕ) (text : List ℕ) → status ≡ (step_read r).status → text ≡ (step_read r).text
    → MatchResult r (λ steps. MatchResult (schedule_of steps) (λ p. Accepts p.text status text) (λ why. Refuses (names_of steps.sections) why status text)) (λ why. Refuses [] why status text)
unfolding refusal_text
read_says (Ok steps) status text s t = played_says (names_of steps.sections) (schedule_of steps) status text s t
read_says (Err why) status text s t = (s, t)

pub step_says : (input : List ℕ) (status : ℕ) (text : List ℕ) → status ≡ (step_read (steps_of input)).status → text ≡ (step_read (steps_of input)).text → StepSays input status text
step_says input status text s t = read_says (steps_of input) status text s t

steps_say : (input : List ℕ) (r : Result Steps (ℕ × Code)) (status : ℕ) (text : List ℕ) → status ≡ (steps_checked input r).status → text ≡ (steps_checked input r).text
    → MatchResult r (λ steps. IsWell input status text) (λ why. Refuses [] why status text)
unfolding refusal_text ok_text
steps_say input (Ok steps) status text s t = (s, t)
steps_say input (Err why) status text s t = (s, t)

rounds_say : (input : List ℕ) (trace : Trace) (r : Result ⊤ (ℕ × Code)) (status : ℕ) (text : List ℕ) → status ≡ (rounds_checked input trace r).status → text ≡ (rounds_checked input trace r).text
    → MatchResult r (λ done. IsWell input status text) (λ why. Refuses (names_of trace.sections) why status text)
unfolding refusal_text ok_text
rounds_say input trace (Ok done) status text s t = (s, t)
rounds_say input trace (Err why) status text s t = (s, t)

trace_says : (input : List ℕ) (r : Result Trace (ℕ × Code)) (status : ℕ) (text : List ℕ) → status ≡ (trace_checked input r).status → text ≡ (trace_checked input r).text
    → MatchResult r (λ trace. MatchResult (rounds_of trace) (λ done. IsWell input status text) (λ why. Refuses (names_of trace.sections) why status text)) (λ why. Refuses [] why status text)
unfolding refusal_text
trace_says input (Ok trace) status text s t = rounds_say input trace (rounds_of trace) status text s t
trace_says input (Err why) status text s t = (s, t)

-- the choice of `check`
abbrev chosen : List ℕ → Bool → Written
chosen input b = if b then steps_checked input (steps_of input) else trace_checked input (trace_of input)

first_is : (lines : List (List ℕ)) → bytes_eq (first_of lines) (codes "memprof-steps 1.0") ≡ true → (rest : List (List ℕ)) × (lines ≡ codes "memprof-steps 1.0" ∷ rest)
first_is [] e = let no : false ≡ true = e in cc
first_is (line ∷ rest) e = (rest, ap (λ (first : List ℕ). first ∷ rest) ((bytes_decides line (codes "memprof-steps 1.0")).0 e))

pub check_says : (input : List ℕ) (status : ℕ) (text : List ℕ) → status ≡ (checked input).status → text ≡ (checked input).text → CheckSays input status text
check_says input status text s t = record {
  schedule = λ rest first.
      let yes : is_schedule input ≡ true = ap (λ (ls : List (List ℕ)). bytes_eq (first_of ls) (codes "memprof-steps 1.0")) first in
      steps_say input (steps_of input) status text (s ∙ ap (λ (b : Bool). (chosen input b).status) yes) (t ∙ ap (λ (b : Bool). (chosen input b).text) yes);
  trace = λ never. by_first never (is_schedule input) refl;
}
  where
    by_first : ((rest : List (List ℕ)) → lines_of input ≢ codes "memprof-steps 1.0" ∷ rest) → (b : Bool) → is_schedule input ≡ b
        → MatchResult (trace_of input) (λ trace. MatchResult (rounds_of trace) (λ done. IsWell input status text) (λ why. Refuses (names_of trace.sections) why status text)) (λ why. Refuses [] why status text)
    by_first never true e = let was = first_is (lines_of input) e in absurd (never was.0 was.1)
    by_first never false e = trace_says input (trace_of input) status text (s ∙ ap (λ (b : Bool). (chosen input b).status) e) (t ∙ ap (λ (b : Bool). (chosen input b).text) e)

rows_say : (key : InfoRow → List ℕ) (r : Result (List InfoRow) ℕ) (status : ℕ) (text : List ℕ) → status ≡ (grouped key r).status → text ≡ (grouped key r).text
    → MatchResult r (λ rows. Accepts (groups_text (groups_of key rows)) status text) (λ line. (status ≡ 1) × (text ≡ info_refusal_text line))
rows_say key (Ok rows) status text s t = (s, t)
rows_say key (Err line) status text s t = (s, t)

pub groups_say : (key : InfoRow → List ℕ) (input : List ℕ) (status : ℕ) (text : List ℕ) → status ≡ (grouped key (rows_of input)).status → text ≡ (grouped key (rows_of input)).text → GroupsSay key input status text
unfolding info_refusal_text
groups_say key input status text s t = rows_say key (rows_of input) status text s t

-- ---- what is served

abbrev pub Says : (List ℕ → Written) → (List ℕ → ℕ → List ℕ → Type 0) → Type 0
Says short says = (input : List ℕ) (status : ℕ) (text : List ℕ) → status ≡ (short input).status → text ≡ (short input).text → says input status text

pub spelled_as : (short : List ℕ → Written) (says : List ℕ → ℕ → List ℕ → Type 0) → Says short says → (status : ℕ) (left left_after taken taken_after : Option (List ℕ)) (input : List ℕ) → IsInput left left_after input
    → status ≡ (limited short input).status → Appends taken taken_after (limited short input).text → ServedBy says status left left_after taken taken_after
spelled_as short says by status left left_after taken taken_after input is_input told written = record {
  input = input;
  text = (limited short input).text;
  read = is_input.taken;
  whole = is_input.whole;
  sent = written;
  long = λ h. let is = long_answer short input h in (told ∙ ap (λ (w : Written). w.status) is, ap (λ (w : Written). w.text) is);
  short = λ h. let is = short_answer short input h in by input status (limited short input).text (told ∙ ap (λ (w : Written). w.status) is) (ap (λ (w : Written). w.text) is);
}

pub spelled_as_in_part : (short : List ℕ → Written) (says : List ℕ → ℕ → List ℕ → Type 0) → Says short says → (left left_after taken taken_after : Option (List ℕ)) (input : List ℕ) → IsInput left left_after input
    → AppendsPrefix taken taken_after (limited short input).text → SentInPart says left left_after taken taken_after
spelled_as_in_part short says by left left_after taken taken_after input is_input written = record {
  input = input;
  status = (limited short input).status;
  text = (limited short input).text;
  count = written.count;
  read = is_input.taken;
  whole = is_input.whole;
  sent = written.sent;
  long = λ h. let is = long_answer short input h in (ap (λ (w : Written). w.status) is, ap (λ (w : Written). w.text) is);
  short = λ h. let is = short_answer short input h in
      by input (limited short input).status (limited short input).text (ap (λ (w : Written). w.status) is) (ap (λ (w : Written). w.text) is);
}

pub spelled : (mode : Mode) (says : List ℕ → ℕ → List ℕ → Type 0) → Says (answer_in mode) says
    → (status : ℕ) (left left_after taken taken_after : Option (List ℕ)) → Served mode status left left_after taken taken_after → ServedBy says status left left_after taken taken_after
spelled mode says by status left left_after taken taken_after served =
    spelled_as (answer_in mode) says by status left left_after taken taken_after served.input served.is_input served.told served.written

pub spelled_in_part : (mode : Mode) (says : List ℕ → ℕ → List ℕ → Type 0) → Says (answer_in mode) says
    → (left left_after taken taken_after : Option (List ℕ)) → ServedInPart mode left left_after taken taken_after → SentInPart says left left_after taken taken_after
spelled_in_part mode says by left left_after taken taken_after served =
    spelled_as_in_part (answer_in mode) says by left left_after taken taken_after served.input served.is_input served.written
