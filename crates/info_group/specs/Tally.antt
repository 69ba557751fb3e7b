-- The sums of rows with the same key, on the way to their groups.
use Rattle.std.specs.Prelude.{ℕ, ◌+◌, List, map, Vec}
use Rattle.std.specs.declared.alloc.Global.{Global}
use Rattle.std.specs.BTreeMap.{BTreeMap}
use Rattle.tag_model.specs.Wrap.{wrap}
use Rattle.info_read.specs.declared.row.InfoRow.{InfoRow}
use Rattle.info_group.specs.declared.group.Group.{Group}
use Rattle.info_group.specs.declared.tally.Sums.{Sums}
use Rattle.std.specs.FinMap.{find, put}
use Rattle.std.specs.Option.{unwrap_or}
use Rattle.info_group.specs.Grouping.{byte_order, bytes_of, calls_of, rows_with, names_of}

-- the sums of no rows
abbrev pub no_sums : Sums
no_sums = record { bytes = 0; calls = 0 }

-- the sums with a row's bytes and calls
abbrev pub with_row : Sums → InfoRow → Sums
with_row sums row = record { bytes = wrap (sums.bytes + row.bytes); calls = wrap (sums.calls + row.calls) }

-- the sums of each name after a row was added to those of one
abbrev pub grown : List ℕ → InfoRow → List (List ℕ × Sums) → List (List ℕ × Sums)
grown name row sums = put byte_order name (with_row (unwrap_or (find byte_order name sums) no_sums) row) sums

-- the sums of rows
abbrev pub sums_of : List InfoRow → Sums
sums_of rows = record { bytes = bytes_of rows; calls = calls_of rows }

-- each key of the rows with the sums of its rows, in byte order
abbrev pub tallies : (InfoRow → List ℕ) → List InfoRow → List (List ℕ × Sums)
tallies key rows = map (λ name. (name, sums_of (rows_with key name rows))) (names_of key rows)

-- what a map has at each name, in its order
abbrev pub by_name : BTreeMap (Vec ℕ Global) Sums → List (List ℕ × Sums)
by_name sums = map (λ entry. (entry.0.items, entry.1)) sums.entries

-- the group of a name and its sums
abbrev pub group_from : List ℕ × Sums → Group
group_from entry = record { name = entry.0; bytes = entry.1.bytes; calls = entry.1.calls }
