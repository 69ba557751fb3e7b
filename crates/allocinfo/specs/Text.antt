-- The text of allocinfo: two header lines, and a line for each row.
use Rattle.std.specs.Prelude.{ℕ, ◌-◌, ◌^◌, ◌<◌, ◌==◌, List, ◌++◌, Option, Some, None, length, replicate, codes, decimal, nat_lt, IsTrue, All, if◌then◌else◌}
use Rattle.std.specs.List.{flat_map}
use Rattle.codetag.specs.TagParts.{tag_text, kept_text}
use Rattle.tag_section.specs.Section.{Section, section_at, tag_at}
use Rattle.allocinfo.specs.declared.rows.Row.{Row}
use Rattle.allocinfo.specs.declared.print.TheConstants.{BYTES_PLACES, CALLS_PLACES}

-- the two lines before the rows
abbrev pub header_text : List ℕ
header_text = codes "allocinfo - version: 1.0\n#     <size>  <calls> <tag info>\n"

-- the text at the right of so many places; a longer one whole
abbrev pub right : ℕ → List ℕ → List ℕ
right places text = replicate (places - length text) 32 ++ text

-- a number of 64 bits, read as a signed one
abbrev pub signed_text : ℕ → List ℕ
signed_text n = if nat_lt n (2 ^ 63) then decimal n else codes "-" ++ decimal (2 ^ 64 - n)

-- the module of a section: none of the kernel's, which is section 0
abbrev pub module_of : List Section → ℕ → Option (List ℕ)
module_of sections number = if number == 0 then None else Some (section_at sections number).name

-- the text of a row's tag
unfoldable pub place_text : List Section → Row → List ℕ
place_text sections row =
    let tag = tag_at sections row.section row.index in
    if row.kept then kept_text tag (section_at sections row.section).name else tag_text tag (module_of sections row.section)

-- a row's line: bytes, calls, and its tag before a space and the newline
unfoldable pub row_text : List Section → Row → List ℕ
row_text sections row =
    right BYTES_PLACES (signed_text row.bytes) ++ codes " " ++ right CALLS_PLACES (decimal row.calls) ++ codes " "
    ++ place_text sections row ++ codes " \n"

-- the header, and the lines of the rows in their order
abbrev pub rows_text : List Section → List Row → List ℕ
rows_text sections rows = header_text ++ flat_map (row_text sections) rows

-- the row has a tag in the sections, and no kept row is the kernel's
pub record IsRow (sections : List Section) (row : Row) : Type 0 where
  pub in_list : row.section < length sections
  pub in_section : row.index < length (section_at sections row.section).tags
  pub of_module : IsTrue row.kept → 0 < row.section

-- each row has a tag in the sections
abbrev pub AreRows : List Section → List Row → Type 0
AreRows sections rows = All (IsRow sections) rows
