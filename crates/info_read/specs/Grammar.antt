-- The text of allocinfo, by what is printed of its rows.
use Rattle.std.specs.Prelude.{ℕ, zero, suc, ◌≡◌, ◌≢◌, ◌+◌, ◌-◌, ◌^◌, ◌<◌, ◌≤◌, ◌↔◌, ◌⊎◌, List, [], ◌∷◌, ◌++◌, Result, Ok, Err, Vec, ⊤, IfSome, IsSome, IsTrue, length, slice_index_or, codes, decimal, unwrap_or, if◌then◌else◌}
use Rattle.std.specs.List.{flat_map}
use Rattle.std.specs.declared.alloc.Global.{Global}
use Rattle.allocinfo.specs.Text.{header_text, right, signed_text}
use Rattle.allocinfo.specs.declared.print.TheConstants.{BYTES_PLACES, CALLS_PLACES}
use Rattle.codetag.specs.TagParts.{IsFormed, tag_text, kept_text}
use Rattle.tag_section.specs.ModuleName.{IsModuleName}
use Rattle.text_form.specs.Lines.{lines_of, tail_of}
use Rattle.info_read.specs.declared.error.InfoError.{InfoError}
use Rattle.info_read.specs.declared.error.InfoError.TheVariants.{Refused, Memory}
use Rattle.info_read.specs.declared.row.InfoRow.{InfoRow}

-- the numbers fit 64 bits, the names are of their forms, and a kept row has a module
pub record IsInfoRow (row : InfoRow) : Type 0 where
  pub bytes_fit : row.bytes < 2 ^ 64
  pub calls_fit : row.calls < 2 ^ 64
  pub tag_formed : IsFormed row.tag
  pub module_formed : IfSome row.module IsModuleName
  pub kept_module : IsTrue row.kept → IsSome row.module

-- the text of a row's tag
unfoldable pub tag_of : InfoRow → List ℕ
tag_of row = if row.kept then kept_text row.tag (unwrap_or row.module []) else tag_text row.tag row.module

-- what is printed of a row, without the space and the newline that end its line
unfoldable pub line_text : InfoRow → List ℕ
line_text row =
    right BYTES_PLACES (signed_text row.bytes) ++ codes " " ++ right CALLS_PLACES (decimal row.calls) ++ codes " " ++ tag_of row

-- the line is that of the row, with or without the space at its end
pub record IsLineOf (row : InfoRow) (line : List ℕ) : Type 0 where
  pub is_row : IsInfoRow row
  pub spells : (line ≡ line_text row) ⊎ (line ≡ line_text row ++ codes " ")

-- the lines are those of the rows, in their order
abbrev pub AreLinesOf : List InfoRow → List (List ℕ) → Type 0
AreLinesOf [] [] = Unit {0}
AreLinesOf [] (line ∷ lines) = ⊥
AreLinesOf (row ∷ rows) [] = ⊥
AreLinesOf (row ∷ rows) (line ∷ lines) = IsLineOf row line × AreLinesOf rows lines

-- the lines, each ended by a newline
abbrev pub ended : List (List ℕ) → List ℕ
ended lines = flat_map (λ line. line ++ codes "\n") lines

-- the text is the two header lines, and a line for each of the rows
abbrev pub Spells : List ℕ → List InfoRow → Type 0
Spells text rows = (lines : List (List ℕ)) × (text ≡ header_text ++ ended lines) × AreLinesOf rows lines

-- the lines of the header
abbrev pub title_line : List ℕ
title_line = codes "allocinfo - version: 1.0"

abbrev pub columns_line : List ℕ
columns_line = codes "#     <size>  <calls> <tag info>"

-- the line is of the form of its place, counted from 0: the header's two lines, and then lines of rows
abbrev pub IsInPlace : ℕ → List ℕ → Type 0
IsInPlace zero line = line ≡ title_line
IsInPlace (suc zero) line = line ≡ columns_line
IsInPlace (suc (suc place)) line = (row : InfoRow) × IsLineOf row line

-- Of the lines, and the tail behind the last newline, the line's number, counted from 1, is that of the first line that
-- isn't of its form at its place. A missing header line, and a line that isn't ended, count as that line.
pub record IsFault (lines : List (List ℕ)) (tail : List ℕ) (line : ℕ) : Type 0 where
  pub from_one : 1 ≤ line
  pub before : (place : ℕ) → place + 1 < line → (place < length lines) × IsInPlace place (slice_index_or lines place [])
  pub fault : line ≤ length lines → ¬ IsInPlace (line - 1) (slice_index_or lines (line - 1) [])
  pub at_end : length lines < line → (line ≤ 2) ⊎ (tail ≢ [])

-- the number of the text's first line that isn't of its form at its place
abbrev pub IsFirstFault : List ℕ → ℕ → Type 0
IsFirstFault text line = IsFault (lines_of text) (tail_of text) line

-- What a call returned are the rows that the text spells, and it spells no other; or there are none; or memory ran out.
abbrev pub FindsRows : List ℕ → Result (Vec InfoRow Global) InfoError → Type 0
FindsRows text (Ok found) = (rows : List InfoRow) → Spells text rows ↔ (found.items ≡ rows)
FindsRows text (Err (Refused line)) = (rows : List InfoRow) → ¬ Spells text rows
FindsRows text (Err (Memory want)) = ⊤

-- What a call returned is the number of the first line that isn't of its form; or each line is; or memory ran out.
abbrev pub FindsFault : List ℕ → Result (Vec InfoRow Global) InfoError → Type 0
FindsFault text (Ok found) = (line : ℕ) → ¬ IsFirstFault text line
FindsFault text (Err (Refused line)) = (number : ℕ) → IsFirstFault text number ↔ (line ≡ number)
FindsFault text (Err (Memory want)) = ⊤
