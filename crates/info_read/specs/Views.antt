-- What the parts that were cut from a text say.
use Rattle.std.specs.Option.{option_copied}
use Rattle.info_read.specs.declared.place.BracketParts.{BracketParts}
use Rattle.info_read.specs.declared.place.PlaceParts.{PlaceParts}
use Rattle.info_read.specs.declared.row.InfoRow.{InfoRow}
use Rattle.info_read.specs.declared.row.RowText.{RowText}
use Rattle.info_read.specs.Place.{Bracket, Place}

abbrev pub bracket_view : BracketParts → Bracket
bracket_view parts = record { name = option_copied parts.name; kept = parts.kept; rest = parts.rest.now }

abbrev pub place_view : PlaceParts → Place
place_view parts =
    record { tag = record { file = parts.file.now; line = parts.line; function = parts.function.now }; name = option_copied parts.name; kept = parts.kept }

-- the row that stands in a text
abbrev pub row_view : RowText → InfoRow
row_view row =
    record { bytes = row.bytes; calls = row.calls; «module» = option_copied row.«module»; kept = row.kept; tag = record { file = row.file.now; line = row.line; function = row.function.now } }
