-- The rows that are read where rows of sections were printed.
use Rattle.std.specs.Prelude.{List, All, map}
use Rattle.allocinfo.specs.Text.{module_of}
use Rattle.allocinfo.specs.declared.rows.Row.{Row}
use Rattle.tag_section.specs.Section.{Section, tag_at}
use Rattle.info_read.specs.declared.error.InfoError.{InfoError}
use Rattle.info_read.specs.declared.error.InfoError.TheVariants.{Refused, Memory}
use Rattle.info_read.specs.declared.row.InfoRow.{InfoRow}
use Rattle.info_read.specs.Grammar.{IsInfoRow}

-- a row of the sections, with its tag, and its module where it isn't the kernel's
abbrev pub info_row : List Section → Row → InfoRow
info_row sections row =
    record { bytes = row.bytes; calls = row.calls; «module» = module_of sections row.section; kept = row.kept; tag = tag_at sections row.section row.index }

-- the rows of the sections, in their order
abbrev pub info_rows : List Section → List Row → List InfoRow
info_rows sections rows = map (info_row sections) rows

-- each row has numbers that fit and names of their forms
abbrev pub AreInfoRows : List Section → List Row → Type 0
AreInfoRows sections rows = All (λ row. IsInfoRow (info_row sections row)) rows

-- memory ran out
abbrev pub IsMemory : InfoError → Type 0
IsMemory (Refused line) = ⊥
IsMemory (Memory want) = Unit {0}
