-- How a line is read.
use Rattle.std.specs.Prelude.{ℕ, ◌&&◌, List, Option, Some, None, if◌then◌else◌}
use Rattle.allocinfo.specs.declared.print.TheConstants.{BYTES_PLACES, CALLS_PLACES}
use Rattle.codetag.specs.Names.{is_file, is_function}
use Rattle.codetag.specs.TagParts.{TagParts}
use Rattle.tag_section.specs.ModuleName.{is_module_name}
use Rattle.info_read.specs.declared.row.InfoRow.{InfoRow}
use Rattle.info_read.specs.Cuts.{◌>>=◌, unpadded}
use Rattle.info_read.specs.Numbers.{signed_of, unsigned_of}
use Rattle.info_read.specs.Place.{Place, place_of}

-- the numbers of a line, and its tag
unfoldable pub parts_of : List ℕ → Option (ℕ × ℕ × Place)
parts_of line = do
  first ← unpadded BYTES_PLACES line
  bytes ← signed_of first.0
  second ← unpadded CALLS_PLACES first.1
  calls ← unsigned_of second.0
  place ← place_of second.1
  Some (bytes, calls, place)

-- the tag, where its names are of their forms
unfoldable pub formed_tag : TagParts → Option TagParts
formed_tag tag = if is_file tag.file && is_function tag.function then Some tag else None

-- the module, where its name is of its form
unfoldable pub formed_name : Option (List ℕ) → Option (Option (List ℕ))
formed_name None = Some None
formed_name (Some name) = if is_module_name name then Some (Some name) else None

-- the row, where its names are of their forms
unfoldable pub formed_row : ℕ → ℕ → Place → Option InfoRow
formed_row bytes calls place = do
  tag ← formed_tag place.tag
  name ← formed_name place.name
  Some (record { bytes = bytes; calls = calls; «module» = name; kept = place.kept; tag = tag })

-- the row of a line
unfoldable pub row_of : List ℕ → Option InfoRow
row_of line = do
  parts ← parts_of line
  formed_row parts.0 parts.1 parts.2
