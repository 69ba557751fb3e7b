-- What holds of all that the reader gives, if each line keeps it.
use Rattle.std.proofs.Common.{ℕ, ◌+◌, ◌<◌, ◌≤◌, Bool, not, leb, List, [], ◌∷◌, ◌++◌, length, Result, Ok, IfOk, arith}
use Rattle.std.proofs.lemmas.Bool.{leb-true}
use Rattle.text_form.specs.Words.{has_empty_word, word_at}
use Rattle.input_form.specs.declared.code.Code.{Code}
use Rattle.input_form.specs.declared.code.Code.TheVariants as code
use Rattle.input_form.specs.declared.head.Head.{Head}
use Rattle.input_form.specs.declared.reading.Keyword.{Keyword}
use Rattle.input_form.specs.declared.reading.Keyword.TheVariants as keyword
use Rattle.input_form.specs.declared.reading.Reading.{Reading}
use Rattle.input_form.specs.Forms.{line_form, tail_form, is_skipped, AreRising}
use Rattle.input_form.specs.Head.{head_line, section_form}
use Rattle.input_form.specs.Judging.{at}
use Rattle.input_form.specs.Reading.{body_line, judged_line, judged_lines, keyword_line, word_line}
use Rattle.input_form.proofs.HeadForm.{AreClosed, IsBefore, IsHead, head_line_in, section_form_in}
use Rattle.input_form.proofs.Judged.{bound, given, passed, skipped, checked, checks, numbered, either}

-- a line's number is in its range
line_form_in : (number : ℕ) (line : List ℕ) → IfOk (line_form number line) (λ _. number ≤ 131072)
unfolding line_form
line_form_in number line =
    checked (λ _. number ≤ 131072) (leb number 131072) code.Lines _
    (λ below. checked (λ _. number ≤ 131072) (leb (length line) 300) code.Long _
    (λ _. checks _ code.Byte (λ _. leb-true _ _ below)))

-- What every reading keeps (P, before the line of the number) holds of what is read, if a line before the body keeps it, and one of the body.
module _ {W B : Type 0} (keywords : List ℕ → Result (Keyword W) Code) (begun : B → Bool) (says : Head → W → ℕ → List ℕ → B → Result B Code) (P : ℕ → Reading B → Type 0) (Q : Reading B → Type 0)
    (heads : (number : ℕ) (reading : Reading B) → P number reading → IsHead reading.head)
    (skip : (number : ℕ) (reading : Reading B) → P number reading → number ≤ 131072 → P (number + 1) reading)
    (before : (number : ℕ) (reading : Reading B) (head : Head) → P number reading → number ≤ 131072 → IsBefore (begun reading.body) reading.head → IsHead head → P (number + 1) (record reading { head = head }))
    (within : (word : W) (number : ℕ) (line : List ℕ) (reading : Reading B) → P number reading → number ≤ 131072 → 0 < length reading.head.sections → IfOk (says reading.head word number line reading.body) (λ body. P (number + 1) (record reading { body = body })))
    (last : (number : ℕ) (reading : Reading B) → P number reading → AreClosed reading.head.sections → Q reading) where
  closed_in : (number : ℕ) (reading : Reading B) → P number reading → IfOk (section_form reading.head.sections) (λ _. AreClosed reading.head.sections)
  closed_in number reading is = section_form_in reading.head.sections (heads number reading is).open_sections

  body_line_in : (word : W) (number : ℕ) (line : List ℕ) (reading : Reading B) → P number reading → number ≤ 131072 → IfOk (body_line says word number line reading) (P (number + 1))
  unfolding body_line
  body_line_in word number line reading is room =
      passed {Q = AreClosed reading.head.sections} (P (number + 1)) (section_form reading.head.sections) _ (closed_in number reading is)
      (λ closed. bound (λ body. P (number + 1) (record reading { body = body })) (P (number + 1)) (says reading.head word number line reading.body) (λ body. Ok (record reading { body = body })) (within word number line reading is room closed.0)
      (λ body kept. kept))

  keyword_line_in : (word : Keyword W) (number : ℕ) (line : List ℕ) (reading : Reading B) → P number reading → number ≤ 131072 → IfOk (keyword_line begun says word number line reading) (P (number + 1))
  keyword_line_in (keyword.Head which) number line reading is room =
      bound (λ (new : Head). IsHead new × IsBefore (begun reading.body) reading.head) (P (number + 1)) (head_line which (begun reading.body) line reading.head) (λ new. Ok (record reading { head = new })) (head_line_in which (begun reading.body) line reading.head (heads number reading is))
      (λ new h. before number reading new is room h.1 h.0)
  keyword_line_in (keyword.Body word) number line reading is room = body_line_in word number line reading is room

  word_line_in : (number : ℕ) (line : List ℕ) (reading : Reading B) → P number reading → number ≤ 131072 → IfOk (word_line keywords begun says number line reading) (P (number + 1))
  unfolding word_line
  word_line_in number line reading is room =
      given (P (number + 1)) (keywords (word_at line 0)) (λ word. keyword_line begun says word number line reading)
      (λ word. keyword_line_in word number line reading is room)

  line_in : (number : ℕ) (line : List ℕ) (reading : Reading B) → P number reading → IfOk (judged_line (word_line keywords begun says) number line reading) (P (number + 1))
  unfolding judged_line
  line_in number line reading is =
      passed {Q = number ≤ 131072} (P (number + 1)) (line_form number line) _ (line_form_in number line)
      (λ room. either (P (number + 1)) (is_skipped line) (Ok reading) _ (skip number reading is room)
      (checked (P (number + 1)) (not (has_empty_word line)) code.Word _
      (λ _. word_line_in number line reading is room)))

  pub lines_in : (number : ℕ) (lines : List (List ℕ)) (tail : List ℕ) (reading : Reading B) → P number reading → IfOk (judged_lines (word_line keywords begun says) number lines tail reading) Q
  lines_in number [] tail reading is =
      numbered Q number _
      (skipped Q (tail_form number tail) _
      (passed {Q = AreClosed reading.head.sections} Q (section_form reading.head.sections) (Ok reading) (closed_in number reading is)
      (λ closed. last number reading is closed)))
  lines_in number (line ∷ lines) tail reading is =
      bound (P (number + 1)) Q (at number (judged_line (word_line keywords begun says) number line reading)) (λ new. judged_lines (word_line keywords begun says) (number + 1) lines tail new)
      (numbered (P (number + 1)) number (judged_line (word_line keywords begun says) number line reading) (line_in number line reading is))
      (λ new formed. lines_in (number + 1) lines tail new formed)

-- ---- numbers of lines that rise

pub rises_more : (low high : ℕ) (numbers : List ℕ) → AreRising low high numbers → AreRising low (high + 1) (numbers ++ high ∷ [])
rises_more low high [] is = (is, omega arith)
rises_more low high (number ∷ numbers) is = (is.0, rises_more (number + 1) high numbers is.1)

pub rises_on : (low high : ℕ) (numbers : List ℕ) → AreRising low high numbers → AreRising low (high + 1) numbers
rises_on low high [] is = omega arith
rises_on low high (number ∷ numbers) is = (is.0, rises_on (number + 1) high numbers is.1)

pub rises_to : (low high most : ℕ) (numbers : List ℕ) → high ≤ most → AreRising low high numbers → AreRising low most numbers
rises_to low high most [] above is = omega arith
rises_to low high most (number ∷ numbers) above is = (is.0, rises_to (number + 1) high most numbers above is.1)

-- numbers that rise are no more than there is room for
pub rising_few : (low high : ℕ) (numbers : List ℕ) → AreRising low high numbers → length numbers + low ≤ high
rising_few low high [] rising = omega (arith, rising)
rising_few low high (number ∷ numbers) rising = omega (arith, rising.0, rising_few (number + 1) high numbers rising.1)
