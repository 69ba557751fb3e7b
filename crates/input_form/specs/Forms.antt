-- The form of every line.
use Rattle.std.specs.Prelude.{ℕ, ◌+◌, ◌≤◌, List, [], ◌∷◌, length, Bool, ◌==◌, nat_le, ◌||◌, Result, Ok, Err, if◌then◌else◌, slice_index, ⊤}
use Rattle.std.specs.List.{list_all}
use Rattle.text_form.specs.Lines.{is_form_byte}
use Rattle.input_form.specs.declared.code.Code.{Code}
use Rattle.input_form.specs.declared.code.Code.TheVariants as code
use Rattle.input_form.specs.Judging.{◌>>◌, need}

-- a line with its newline; comments and empty lines too
unfoldable pub line_form : ℕ → List ℕ → Result ⊤ Code
line_form number line = do
  need (nat_le number 131072) code.Lines
  need (nat_le (length line) 300) code.Long
  need (list_all is_form_byte line) code.Byte

-- what stands behind the last newline
unfoldable pub tail_form : ℕ → List ℕ → Result ⊤ Code
tail_form number tail = if length tail == 0 then Ok tt else if nat_le number 131072 then Err code.Cut else Err code.Lines

-- an empty line, or one that begins with `#`
unfoldable pub is_skipped : List ℕ → Bool
is_skipped line = length line == 0 || slice_index line 0 == 35

-- the first line, which is to be the header
unfoldable pub first_line : List (List ℕ) → List ℕ → Result (List ℕ) Code
first_line [] tail = do
  tail_form 1 tail
  Err code.Header
first_line (line ∷ lines) tail = do
  line_form 1 line
  Ok line

-- Numbers that rise, from the first bound on and below the second.
abbrev pub AreRising : ℕ → ℕ → List ℕ → Type 0
AreRising low high [] = low ≤ high
AreRising low high (number ∷ numbers) = (low ≤ number) × AreRising (number + 1) high numbers

-- the numbers of the lines behind the header
abbrev pub AreLineNumbers : List ℕ → Type 0
AreLineNumbers numbers = AreRising 2 131073 numbers
