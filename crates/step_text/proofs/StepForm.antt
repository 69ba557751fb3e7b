-- What holds of every schedule that is read.
use Rattle.std.proofs.Common.{◌≡◌, ℕ, ◌+◌, ◌<◌, ◌≤◌, Bool, true, false, cond, eqb, ltb, List, [], ◌∷◌, ◌++◌, length, Result, Ok, Err, IfOk, codes, drop, suc, zero, refl, sym, subst, ⊎_elim, arith, length-append}
use Rattle.std.specs.List.{AllByRecursion}
use Rattle.std.proofs.lemmas.Bool.{ltb-true, eqb-true, not-false}
use Rattle.std.proofs.lemmas.List.{map-append}
use Rattle.std.proofs.lemmas.List.Sums.{sum_by_push}
use Rattle.std.proofs.lemmas.Result.{IfOk-at_ok}
use Rattle.text_form.specs.Lines.{lines_of, tail_of}
use Rattle.text_form.specs.Words.{words_of}
use Rattle.input_form.specs.declared.code.Code.TheVariants as code
use Rattle.input_form.specs.declared.code.TextError.{TextError}
use Rattle.input_form.specs.declared.head.Head.{Head}
use Rattle.input_form.specs.Forms.{first_line, AreRising}
use Rattle.input_form.specs.Head.{cpus_of}
use Rattle.input_form.specs.Judging.{at, need, Reads}
use Rattle.input_form.specs.Reading.{judged_lines, word_line}
use Rattle.input_form.specs.Words.{is_word}
use Rattle.input_form.proofs.HeadForm.{IsHead, IsBefore, AreClosed, IsHead-empty, cpus_in, area_in}
use Rattle.input_form.proofs.Judged.{bound, given, skipped, checked}
use Rattle.input_form.proofs.LineForm.{lines_in, rises_more, rises_on, rises_to}
use Rattle.input_form.specs.declared.reading.Reading.{Reading}
use Rattle.step_text.specs.declared.step_reading.StepBody.{StepBody}
use Rattle.step_text.specs.declared.step_words.BodyWord.{BodyWord}
use Rattle.step_text.specs.declared.step_words.BodyWord.TheVariants as word
use Rattle.step_text.specs.declared.steps.StepAct.{StepAct}
use Rattle.step_text.specs.declared.steps.StepAct.TheVariants as act
use Rattle.step_text.specs.declared.steps.StepLine.{StepLine}
use Rattle.step_text.specs.declared.steps.Steps.{Steps}
use Rattle.step_text.specs.StepForm.{IsStepAct, is_printing, prints_of, numbers_of, AreSteps}
use Rattle.step_text.specs.StepReading.{begun, body_words, empty_reading, steps_from, steps_of, with_act, with_print}
use Rattle.step_text.specs.StepWords.{step_keyword}
use Rattle.step_text.proofs.StepFormLines.{IsQuiet, do_line_in, go_line_in, words_line_in}

-- what holds before the line of the number
pub record IsReading (number : ℕ) (reading : Reading StepBody) : Type 0 where
  pub head : IsHead reading.head
  pub some_section : 0 < length reading.body.lines → 0 < length reading.head.sections
  pub acts : AllByRecursion (λ line. IsStepAct (cpus_of reading.head) reading.head.sections line.act) reading.body.lines
  pub lines : AreRising 2 number (numbers_of reading.body.lines)
  pub few_lines : length reading.body.lines + 2 ≤ number
  pub within : number ≤ 131073
  pub few_prints : prints_of reading.body.lines ≤ reading.body.prints
  pub most_prints : reading.body.prints ≤ 64

IsReading-empty : IsReading 2 empty_reading
IsReading-empty = record {
  head = IsHead-empty;
  some_section = λ some. absurd (omega arith);
  acts = tt;
  lines = omega arith;
  few_lines = omega arith;
  within = omega arith;
  few_prints = omega arith;
  most_prints = omega arith;
}

-- a line that says nothing
passes : (number : ℕ) (reading : Reading StepBody) → IsReading number reading → number ≤ 131072 → IsReading (number + 1) reading
passes number reading is room = record {
  head = is.head;
  some_section = is.some_section;
  acts = is.acts;
  lines = rises_on 2 number (numbers_of reading.body.lines) is.lines;
  few_lines = omega (arith, is.few_lines);
  within = omega arith;
  few_prints = is.few_prints;
  most_prints = is.most_prints;
}

all_of_none : (P : StepLine → Type 0) (xs : List StepLine) → length xs ≡ 0 → AllByRecursion P xs
all_of_none P [] none = tt
all_of_none P (x ∷ xs) none = absurd (omega arith)

all_of_more : (P : StepLine → Type 0) (xs : List StepLine) (y : StepLine) → AllByRecursion P xs → P y → AllByRecursion P (xs ++ y ∷ [])
all_of_more P [] y all here = (here, tt)
all_of_more P (x ∷ xs) y all here = (all.0, all_of_more P xs y all.1 here)

prints_of_more : (xs : List StepLine) (y : StepLine) → prints_of (xs ++ y ∷ []) ≡ prints_of xs + cond (is_printing y.act) 1 0
prints_of_more xs y = sum_by_push (λ (line : StepLine). cond (is_printing line.act) 1 0) xs y

-- a line that stands before the body
before_body : (number : ℕ) (reading : Reading StepBody) (new : Head) → IsReading number reading → number ≤ 131072 → length reading.body.lines ≡ 0 → IsHead new → IsReading (number + 1) (record reading { head = new })
before_body number reading new is room none formed = record {
  head = formed;
  some_section = λ some. absurd (omega arith);
  acts = all_of_none _ reading.body.lines none;
  lines = rises_on 2 number (numbers_of reading.body.lines) is.lines;
  few_lines = omega (arith, is.few_lines);
  within = omega arith;
  few_prints = is.few_prints;
  most_prints = is.most_prints;
}

-- a body line
module _ (number : ℕ) (reading : Reading StepBody) (is : IsReading number reading) (room : number ≤ 131072) (some : 0 < length reading.head.sections) where
  one_more : (a : StepAct) → length (with_act number a reading.body).lines ≡ length reading.body.lines + 1
  one_more a = length-append reading.body.lines (record { line = number; act = a } ∷ [])

  numbers_more : (a : StepAct) → numbers_of (with_act number a reading.body).lines ≡ numbers_of reading.body.lines ++ number ∷ []
  numbers_more a = map-append (λ (line : StepLine). line.line) reading.body.lines (record { line = number; act = a } ∷ [])

  quiet_more : (a : StepAct) → IsQuiet (cpus_of reading.head) reading.head.sections a → IsReading (number + 1) (record reading { body = with_act number a reading.body })
  quiet_more a quiet = record {
    head = is.head;
    some_section = λ _. some;
    acts = all_of_more _ reading.body.lines (record { line = number; act = a }) is.acts quiet.0;
    lines = subst (AreRising 2 (number + 1)) (sym (numbers_more a)) (rises_more 2 number (numbers_of reading.body.lines) is.lines);
    few_lines = omega (arith, is.few_lines, one_more a);
    within = omega arith;
    few_prints = rw (prints_of_more reading.body.lines (record { line = number; act = a }), quiet.1) (omega (arith, is.few_prints));
    most_prints = is.most_prints;
  }

  print_more : (a : StepAct) → IsStepAct (cpus_of reading.head) reading.head.sections a → reading.body.prints < 64 → IsReading (number + 1) (record reading { body = with_print number a reading.body })
  print_more a acts below = record {
    head = is.head;
    some_section = λ _. some;
    acts = all_of_more _ reading.body.lines (record { line = number; act = a }) is.acts acts;
    lines = subst (AreRising 2 (number + 1)) (sym (numbers_more a)) (rises_more 2 number (numbers_of reading.body.lines) is.lines);
    few_lines = omega (arith, is.few_lines, one_more a);
    within = omega arith;
    few_prints = rw (prints_of_more reading.body.lines (record { line = number; act = a })) (omega (arith, is.few_prints, at_most_one (is_printing a)));
    most_prints = omega arith;
  }
    where
      at_most_one : (b : Bool) → cond b 1 0 ≤ 1
      at_most_one true = omega arith
      at_most_one false = omega arith

outside : (reading : Reading StepBody) → begun reading.body ≡ false → length reading.body.lines ≡ 0
outside reading out = eqb-true _ _ (not-false _ out)

-- before the first section there is no body
no_body : (number : ℕ) (reading : Reading StepBody) → IsReading number reading → length reading.head.sections ≡ 0 → length reading.body.lines ≡ 0
no_body number reading is none = first (length reading.body.lines) (λ some. is.some_section some)
  where
    first : (n : ℕ) → (0 < n → 0 < length reading.head.sections) → n ≡ 0
    first zero h = refl
    first (suc n) h = absurd (omega (arith, h (omega arith)))

body_words_in : (w : BodyWord) (number : ℕ) (line : List ℕ) (reading : Reading StepBody) → IsReading number reading → number ≤ 131072 → 0 < length reading.head.sections
    → IfOk (body_words reading.head w number line reading.body) (λ body. IsReading (number + 1) (record reading { body = body }))
body_words_in word.Do number line reading is room some =
    bound (IsQuiet (cpus_of reading.head) reading.head.sections) (λ body. IsReading (number + 1) (record reading { body = body })) _ (λ a. Ok (with_act number a reading.body)) (do_line_in (cpus_of reading.head) reading.head.sections line)
    (λ a quiet. quiet_more number reading is room some a quiet)
body_words_in word.Go number line reading is room some =
    bound (IsQuiet (cpus_of reading.head) reading.head.sections) (λ body. IsReading (number + 1) (record reading { body = body })) _ (λ a. Ok (with_act number a reading.body)) (go_line_in (cpus_of reading.head) reading.head.sections line)
    (λ a quiet. quiet_more number reading is room some a quiet)
body_words_in word.Print number line reading is room some =
    checked (λ body. IsReading (number + 1) (record reading { body = body })) (eqb (length (words_of line)) 1) code.Word _
    (λ _. checked (λ body. IsReading (number + 1) (record reading { body = body })) (ltb reading.body.prints 64) code.Prints _
    (λ below. print_more number reading is room some act.Print tt (ltb-true _ _ below)))
body_words_in word.Words number line reading is room some =
    bound (IsStepAct (cpus_of reading.head) reading.head.sections) (λ body. IsReading (number + 1) (record reading { body = body })) _ _ (words_line_in (cpus_of reading.head) reading.head.sections line)
    (λ a acts. checked (λ body. IsReading (number + 1) (record reading { body = body })) (ltb reading.body.prints 64) code.Prints (Ok (with_print number a reading.body))
    (λ below. print_more number reading is room some a acts (ltb-true _ _ below)))

-- nothing stands in the body where a line may still stand before it
none_yet : (number : ℕ) (reading : Reading StepBody) → IsReading number reading → IsBefore (begun reading.body) reading.head → length reading.body.lines ≡ 0
none_yet number reading is before = ⊎_elim (λ none. no_body number reading is none) (λ out. outside reading out) before

-- at the end of the lines
ended : (number : ℕ) (reading : Reading StepBody) → IsReading number reading → AreClosed reading.head.sections → AreSteps (steps_from reading)
ended number reading is closed = record {
  some_cpu = (cpus_in reading.head is.head).0;
  few_cpus = (cpus_in reading.head is.head).1;
  small_area = area_in reading.head is.head;
  some_section = closed.0;
  sections = is.head.open_sections.are;
  tagged = closed.1;
  acts = is.acts;
  lines = rises_to 2 number 131073 (numbers_of reading.body.lines) is.within is.lines;
  few_lines = omega (arith, is.few_lines, is.within);
  few_prints = omega (arith, is.few_prints, is.most_prints);
}

all_in : (lines : List (List ℕ)) (tail : List ℕ) → IfOk (judged_lines (word_line step_keyword begun body_words) 2 lines tail empty_reading) (λ r. AreSteps (steps_from r))
all_in lines tail =
    lines_in step_keyword begun body_words IsReading (λ r. AreSteps (steps_from r)) (λ number reading is. is.head) passes
    (λ number reading new is room before formed. before_body number reading new is room (none_yet number reading is before) formed)
    body_words_in ended 2 lines tail empty_reading IsReading-empty

-- a schedule that a text spells is well formed
pub steps_of_formed : (text : List ℕ) (s : Steps) → steps_of text ≡ Ok s → AreSteps s
unfolding steps_of
steps_of_formed text s read =
    IfOk-at_ok AreSteps read
    (given AreSteps (at 1 (first_line (lines_of text) (tail_of text))) _ (λ header.
    skipped AreSteps (at 1 (need (is_word (codes "memprof-steps 1.0") header) code.Header)) _
    (bound (λ r. AreSteps (steps_from r)) AreSteps _ (λ reading. Ok (steps_from reading)) (all_in (drop 1 (lines_of text)) (tail_of text))
    (λ reading formed. formed))))

pub read_is_formed : (r : Result Steps TextError) (text : List ℕ) → Reads r (steps_of text) → IfOk r AreSteps
read_is_formed (Ok steps) text h = steps_of_formed text steps h
read_is_formed (Err e) text h = tt
