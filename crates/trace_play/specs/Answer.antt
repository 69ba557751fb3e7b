-- What `run` answers to an input: its form comes first, then the check of its rounds, then its meaning.
use Rattle.std.specs.Prelude.{ℕ, ◌++◌, Option, Result, Ok, Err, List, [], codes, decimal, ⊤}
use Rattle.tag_section.specs.Section.{names_of}
use Rattle.input_form.specs.declared.code.Code.{Code}
use Rattle.trace.specs.declared.traces.Trace.{Trace}
use Rattle.input_form.specs.Codes.{code_text}
use Rattle.input_form.specs.Judging.{◌>>=◌}
use Rattle.trace.specs.TraceReading.{trace_of}
use Rattle.round_check.specs.Walk.{rounds_of}
use Rattle.trace_play.specs.Machine.{Machine, fresh_machine}
use Rattle.trace_play.specs.Play.{trace_played, trace_text}

-- the status and the text, and the machine that is left
pub record RunAnswer : Type 0 where
  pub status : ℕ
  pub text : List ℕ
  pub machine : Machine

-- `line N: CODE`
unfoldable pub refusal_text : List (List ℕ) → ℕ → Code → List ℕ
refusal_text names line code = codes "line " ++ decimal line ++ codes ": " ++ code_text names code ++ codes "\n"

abbrev pub answered : List (List ℕ) → Machine → Result (List ℕ) (ℕ × Code) → RunAnswer
answered names m (Ok text) = record { status = 0; text = text; machine = m }
answered names m (Err why) = record { status = 1; text = refusal_text names why.0 why.1; machine = m }

-- nothing was done
abbrev pub untouched : Machine
untouched = fresh_machine 0 0 0 0

abbrev pub checked_answer : Option ℕ → Trace → Result ⊤ (ℕ × Code) → RunAnswer
checked_answer top trace (Err why) = answered (names_of trace.sections) untouched (Err why)
checked_answer top trace (Ok well) = answered (names_of trace.sections) (trace_played trace top).played.machine (trace_text trace top)

abbrev pub formed_answer : Option ℕ → Result Trace (ℕ × Code) → RunAnswer
formed_answer top (Err why) = answered [] untouched (Err why)
formed_answer top (Ok trace) = checked_answer top trace (rounds_of trace)

unfoldable pub run_answer : Option ℕ → List ℕ → RunAnswer
run_answer top input = formed_answer top (trace_of input)

-- what the lines of an input mean, where their form is right: without the check of its rounds
unfoldable pub meaning_of : Option ℕ → List ℕ → Result (List ℕ) (ℕ × Code)
meaning_of top input = trace_of input >>= λ trace. trace_text trace top

abbrev pub told : RunAnswer → ℕ × List ℕ
told answer = (answer.status, answer.text)
