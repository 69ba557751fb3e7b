-- How a text is read: the header's lines, and then each line for itself.
use Rattle.std.specs.Prelude.{ℕ, ◌≡◌, ◌+◌, ◌==◌, List, [], ◌∷◌, ◌++◌, Option, Some, None, Result, Ok, Err, Vec, ⊤, length, map, if◌then◌else◌}
use Rattle.std.specs.Option.{ok_or}
use Rattle.std.specs.Str.{bytes_eq}
use Rattle.std.specs.declared.alloc.Global.{Global}
use Rattle.text_form.specs.Lines.{lines_of, tail_of}
use Rattle.info_read.specs.declared.error.InfoError.{InfoError}
use Rattle.info_read.specs.declared.error.InfoError.TheVariants.{Refused, Memory}
use Rattle.info_read.specs.declared.row.InfoRow.{InfoRow}
use Rattle.info_read.specs.declared.row.RowText.{RowText}
use Rattle.info_read.specs.Grammar.{title_line, columns_line}
use Rattle.info_read.specs.Line.{row_of}
use Rattle.info_read.specs.Views.{row_view}

infixl 10 ◌>>=◌
abbrev pub ◌>>=◌ : {A B E : Type 0} → Result A E → (A → Result B E) → Result B E
(Ok x) >>= f = f x
(Err e) >>= f = Err e

-- What a call returned is what reading gives, unless memory ran out.
abbrev pub Reads : Result (Vec InfoRow Global) InfoError → Result (List InfoRow) ℕ → Type 0
Reads (Ok found) read = read ≡ Ok found.items
Reads (Err (Refused line)) read = read ≡ Err line
Reads (Err (Memory want)) read = ⊤

-- The same of rows that are parts of the text.
abbrev pub ReadsText : Result (Vec RowText Global) InfoError → Result (List InfoRow) ℕ → Type 0
ReadsText (Ok found) read = read ≡ Ok (map row_view found.items)
ReadsText (Err (Refused line)) read = read ≡ Err line
ReadsText (Err (Memory want)) read = ⊤

-- the lines behind the first one, where that is the line
abbrev pub behind : List ℕ → List (List ℕ) → Option (List (List ℕ))
behind expected [] = None
behind expected (first ∷ lines) = if bytes_eq first expected then Some lines else None

-- the rows so far and those of the lines from a number on, or the number of the first line that is no row's
abbrev pub rows_from : ℕ → List (List ℕ) → List ℕ → List InfoRow → Result (List InfoRow) ℕ
rows_from number [] tail rows = if length tail == 0 then Ok rows else Err number
rows_from number (line ∷ lines) tail rows = do
  row ← ok_or (row_of line) number
  rows_from (number + 1) lines tail (rows ++ row ∷ [])

-- the rows of a text, or the number of its first line that isn't of its form
unfoldable pub rows_of : List ℕ → Result (List InfoRow) ℕ
rows_of text = do
  body ← ok_or (behind title_line (lines_of text)) 1
  lines ← ok_or (behind columns_line body) 2
  rows_from 3 lines (tail_of text) []
