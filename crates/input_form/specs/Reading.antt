-- How an input is read: a fold over its lines, from what a language says of a line of its body.
use Rattle.std.specs.Prelude.{ℕ, ◌+◌, not, Bool, List, [], ◌∷◌, Result, Ok, if◌then◌else◌}
use Rattle.text_form.specs.Words.{has_empty_word, word_at}
use Rattle.input_form.specs.declared.code.Code.{Code}
use Rattle.input_form.specs.declared.code.Code.TheVariants as code
use Rattle.input_form.specs.declared.head.Head.{Head}
use Rattle.input_form.specs.declared.reading.Keyword.{Keyword}
use Rattle.input_form.specs.declared.reading.Keyword.TheVariants as keyword
use Rattle.input_form.specs.declared.reading.Reading.{Reading}
use Rattle.input_form.specs.Forms.{line_form, tail_form, is_skipped}
use Rattle.input_form.specs.Head.{head_line, section_form}
use Rattle.input_form.specs.Judging.{◌>>=◌, ◌>>◌, need, at}

-- a line of the body, after sections that are whole
unfoldable pub body_line : {W B : Type 0} → (Head → W → ℕ → List ℕ → B → Result B Code) → W → ℕ → List ℕ → Reading B → Result (Reading B) Code
body_line says word number line reading = do
  section_form reading.head.sections
  body ← says reading.head word number line reading.body
  Ok (record reading { body = body })

-- a line, by what its first word says
abbrev pub keyword_line : {W B : Type 0} → (B → Bool) → (Head → W → ℕ → List ℕ → B → Result B Code) → Keyword W → ℕ → List ℕ → Reading B → Result (Reading B) Code
keyword_line begun says (keyword.Head which) number line reading = do
  head ← head_line which (begun reading.body) line reading.head
  Ok (record reading { head = head })
keyword_line begun says (keyword.Body word) number line reading = body_line says word number line reading

-- a line that is neither empty nor a comment
unfoldable pub word_line : {W B : Type 0} → (List ℕ → Result (Keyword W) Code) → (B → Bool) → (Head → W → ℕ → List ℕ → B → Result B Code) → ℕ → List ℕ → Reading B → Result (Reading B) Code
word_line keywords begun says number line reading = do
  word ← keywords (word_at line 0)
  keyword_line begun says word number line reading

-- a line from the second on
unfoldable pub judged_line : {B : Type 0} → (ℕ → List ℕ → Reading B → Result (Reading B) Code) → ℕ → List ℕ → Reading B → Result (Reading B) Code
judged_line words number line reading = do
  line_form number line
  if is_skipped line then Ok reading else do
    need (not (has_empty_word line)) code.Word
    words number line reading

-- the lines from a number on, then what stands behind the last newline, then the end
abbrev pub judged_lines : {B : Type 0} → (ℕ → List ℕ → Reading B → Result (Reading B) Code) → ℕ → List (List ℕ) → List ℕ → Reading B → Result (Reading B) (ℕ × Code)
judged_lines words number [] tail reading = at number (do
  tail_form number tail
  section_form reading.head.sections
  Ok reading)
judged_lines words number (line ∷ lines) tail reading = do
  new ← at number (judged_line words number line reading)
  judged_lines words (number + 1) lines tail new
