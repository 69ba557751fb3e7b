-- How the text of a tag is read.
use Rattle.std.specs.Prelude.{ℕ, ◌==◌, Bool, true, false, List, length, codes, Option, Some, None, if◌then◌else◌}
use Rattle.std.specs.Str.{bytes_eq}
use Rattle.codetag.specs.TagParts.{TagParts}
use Rattle.text_form.specs.Numbers.{number_in}
use Rattle.info_read.specs.Cuts.{◌>>=◌, cut, after_word}

-- a module's name, or a name and `:kept`
abbrev pub label_parts : List ℕ → Option (List ℕ × List ℕ) → Option (List ℕ × Bool)
label_parts label None = Some (label, false)
label_parts label (Some parts) = if bytes_eq parts.1 (codes "kept") then Some (parts.0, true) else None

unfoldable pub label_of : List ℕ → Option (List ℕ × Bool)
label_of label = label_parts label (cut 58 label)

-- the module in brackets, whether it is kept, and what follows
pub record Bracket : Type 0 where
  pub name : Option (List ℕ)
  pub kept : Bool
  pub rest : List ℕ

-- what stands behind an opening bracket
unfoldable pub inside_of : List ℕ → Option Bracket
inside_of inside = do
  parts ← cut 93 inside
  label ← label_of parts.0
  rest ← after_word (codes " ") parts.1
  Some (record { name = Some label.0; kept = label.1; rest = rest })

abbrev pub bracket_from : List ℕ → Option (List ℕ) → Option Bracket
bracket_from text None = Some (record { name = None; kept = false; rest = text })
bracket_from text (Some inside) = inside_of inside

-- a module in brackets and a space, or nothing
unfoldable pub bracket_of : List ℕ → Option Bracket
bracket_of text = bracket_from text (after_word (codes "[") text)

abbrev pub last_from : List ℕ → Option (List ℕ × List ℕ) → Option (List ℕ)
last_from text None = Some text
last_from text (Some parts) = if length parts.1 == 0 then Some parts.0 else None

-- the last word of a line, which a space may end
unfoldable pub last_word : List ℕ → Option (List ℕ)
last_word text = last_from text (cut 32 text)

-- a tag, its module and whether it is kept
pub record Place : Type 0 where
  pub tag : TagParts
  pub name : Option (List ℕ)
  pub kept : Bool

-- `FILE:LINE func:FUNCTION`, with the module in brackets before `func`
unfoldable pub place_of : List ℕ → Option Place
place_of text = do
  file ← cut 58 text
  number ← cut 32 file.1
  line ← number_in 1 4294967295 number.0
  bracket ← bracket_of number.1
  word ← after_word (codes "func:") bracket.rest
  function ← last_word word
  Some (record { tag = record { file = file.0; line = line; function = function }; name = bracket.name; kept = bracket.kept })
