-- What the top call serves: what the words ask for, what is written for an input, the status, and what the plant has then.
use Rattle.std.specs.Prelude.{◌≡◌, ℕ, ◌≤◌, Bool, false, Option, Some, None, Ok, List, [], ◌∷◌, length, codes, nat_lt, option_map, if◌then◌else◌}
use Rattle.std.specs.Str.{bytes_eq}
use Rattle.std.specs.Io.KnownBytes.{Appends}
use Rattle.outside.specs.Bytes.{AppendsPrefix}
use Rattle.trace.specs.declared.traces.Trace.{Trace}
use Rattle.trace.specs.TraceReading.{trace_of}
use Rattle.round_check.specs.Walk.{rounds_of}
use Rattle.trace_play.specs.Answer.{RunAnswer, run_answer}
use Rattle.plant.specs.Table.{PlantShown}
use Rattle.profile_top.specs.declared.mode.Mode.{Mode}
use Rattle.profile_top.specs.Answers.{IsInput, Written, answer_in, input_limit, mode_of, too_long}
use Rattle.trace_run.specs.Runs.{HasRun}

-- ---- words

-- what is served without a plant, or a run
pub data Command : Type 0 where
  Still : Mode → Command
  Run : Command

-- the one word `run`
abbrev pub is_run : List (List ℕ) → Bool
is_run [] = false
is_run (word ∷ []) = bytes_eq word (codes "run")
is_run (word ∷ other ∷ others) = false

abbrev pub command_of : List (List ℕ) → Option Command
command_of words = if is_run words then Some Run else option_map Still (mode_of words)

-- ---- answers

abbrev pub written_of : RunAnswer → Written
written_of answer = record { status = answer.status; text = answer.text }

abbrev pub command_in : Command → List ℕ → Written
command_in (Still mode) input = answer_in mode input
command_in Run input = written_of (run_answer None input)

-- what is written for an input
abbrev pub command_answer : Command → List ℕ → Written
command_answer command input = if nat_lt input_limit (length input) then too_long else command_in command input

-- ---- the plant

-- an input that is run: not too long, a trace by its form, and its rounds are as they may be
pub record IsRunnable (input : List ℕ) : Type 0 where
  pub within : length input ≤ input_limit
  pub trace : Trace
  pub form : trace_of input ≡ Ok trace
  pub rounds : rounds_of trace ≡ Ok tt

-- what `run` leaves for an input: where its trace is run, the words of the machine that it comes to, and else nothing new
pub record RunLeaves (input : List ℕ) (old new : PlantShown) : Type 0 where
  pub ran : IsRunnable input → HasRun (run_answer None input).machine old new
  pub not_ran : ¬ IsRunnable input → new ≡ old

abbrev pub CommandLeaves : Command → List ℕ → PlantShown → PlantShown → Type 0
CommandLeaves (Still mode) input old new = new ≡ old
CommandLeaves Run input old new = RunLeaves input old new

-- ---- what calls leave

-- the status, the bytes that went out and the plant are those of the input
pub record CommandServed (command : Command) (status : ℕ) (left left_after taken taken_after : Option (List ℕ)) (plant plant_after : PlantShown) : Type 0 where
  pub input : List ℕ
  pub is_input : IsInput left left_after input
  pub told : status ≡ (command_answer command input).status
  pub written : Appends taken taken_after (command_answer command input).text
  pub leaves : CommandLeaves command input plant plant_after

-- the bytes that went out are the first of those of the input, and the plant is that of the input
pub record CommandServedInPart (command : Command) (left left_after taken taken_after : Option (List ℕ)) (plant plant_after : PlantShown) : Type 0 where
  pub input : List ℕ
  pub is_input : IsInput left left_after input
  pub written : AppendsPrefix taken taken_after (command_answer command input).text
  pub leaves : CommandLeaves command input plant plant_after
