-- How a schedule is read: a fold over its lines.
use Rattle.std.specs.Prelude.{ℕ, ◌+◌, ◌==◌, Bool, not, nat_lt, List, [], ◌∷◌, ◌++◌, length, drop, unwrap_or, Result, Ok, codes}
use Rattle.text_form.specs.Lines.{lines_of, tail_of}
use Rattle.text_form.specs.Words.{words_of}
use Rattle.input_form.specs.declared.code.Code.{Code}
use Rattle.input_form.specs.declared.code.Code.TheVariants as code
use Rattle.input_form.specs.declared.head.Head.{Head}
use Rattle.input_form.specs.declared.reading.Reading.{Reading}
use Rattle.step_text.specs.declared.step_reading.StepBody.{StepBody}
use Rattle.step_text.specs.declared.step_words.BodyWord.{BodyWord}
use Rattle.step_text.specs.declared.step_words.BodyWord.TheVariants as word
use Rattle.step_text.specs.declared.steps.StepAct.{StepAct}
use Rattle.step_text.specs.declared.steps.StepAct.TheVariants.{Print}
use Rattle.step_text.specs.declared.steps.Steps.{Steps}
use Rattle.input_form.specs.Forms.{first_line}
use Rattle.input_form.specs.Head.{empty_head, cpus_of}
use Rattle.input_form.specs.Judging.{◌>>=◌, ◌>>◌, need, at}
use Rattle.step_text.specs.StepGrammar.{do_line, go_line, words_line}
use Rattle.step_text.specs.StepWords.{step_keyword}
use Rattle.input_form.specs.Reading.{judged_lines, word_line}
use Rattle.input_form.specs.Words.{is_word}

-- before the second line
abbrev pub empty_reading : Reading StepBody
empty_reading = record { head = empty_head; body = record { lines = []; prints = 0 } }

-- one line more
abbrev pub with_act : ℕ → StepAct → StepBody → StepBody
with_act number act body = record body { lines = body.lines ++ record { line = number; act = act } ∷ [] }

-- one line more that prints
abbrev pub with_print : ℕ → StepAct → StepBody → StepBody
with_print number act body = record (with_act number act body) { prints = body.prints + 1 }

-- whether the body has begun
abbrev pub begun : StepBody → Bool
begun body = not (length body.lines == 0)

-- what a line of the body says, by its first word
abbrev pub body_words : Head → BodyWord → ℕ → List ℕ → StepBody → Result StepBody Code
body_words head word.Do number line body = do
  act ← do_line (cpus_of head) head.sections line
  Ok (with_act number act body)
body_words head word.Go number line body = do
  act ← go_line (cpus_of head) line
  Ok (with_act number act body)
body_words head word.Print number line body = do
  need (length (words_of line) == 1) code.Word
  need (nat_lt body.prints 64) code.Prints
  Ok (with_print number Print body)
body_words head word.Words number line body = do
  act ← words_line head.sections line
  need (nat_lt body.prints 64) code.Prints
  Ok (with_print number act body)

-- what was read, with the defaults of the sizes that were not set
abbrev pub steps_from : Reading StepBody → Steps
steps_from reading = record { cpus = cpus_of reading.head; area = unwrap_or reading.head.area 896; sections = reading.head.sections; body = reading.body.lines }

-- the schedule that a text spells, or the first line that fails with its code
unfoldable pub steps_of : List ℕ → Result Steps (ℕ × Code)
steps_of text = do
  header ← at 1 (first_line (lines_of text) (tail_of text))
  at 1 (need (is_word (codes "memprof-steps 1.0") header) code.Header)
  reading ← judged_lines (word_line step_keyword begun body_words) 2 (drop 1 (lines_of text)) (tail_of text) empty_reading
  Ok (steps_from reading)
