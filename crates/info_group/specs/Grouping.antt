-- The groups of rows by a key.
use Rattle.std.specs.Prelude.{ℕ, List, [], ◌∷◌, map, sum_by}
use Rattle.std.specs.declared.cmp.Ordering.{Ordering}
use Rattle.std.specs.Ordering.{nat_cmp}
use Rattle.std.specs.Cmp.Lexicographic.{slice_cmp}
use Rattle.std.specs.BTreeSet.{insert_key}
use Rattle.std.specs.List.{filter}
use Rattle.std.specs.Str.{bytes_eq}
use Rattle.tag_model.specs.Wrap.{wrap}
use Rattle.info_read.specs.declared.row.InfoRow.{InfoRow}
use Rattle.info_group.specs.declared.group.Group.{Group}

-- the order of names, byte by byte
abbrev pub byte_order : List ℕ → List ℕ → Ordering
byte_order = slice_cmp nat_cmp

-- what a word of 64 bits keeps of the rows' bytes and calls
abbrev pub bytes_of : List InfoRow → ℕ
bytes_of rows = wrap (sum_by (λ row. row.bytes) rows)

abbrev pub calls_of : List InfoRow → ℕ
calls_of rows = wrap (sum_by (λ row. row.calls) rows)

-- the rows with the name as their key
abbrev pub rows_with : (InfoRow → List ℕ) → List ℕ → List InfoRow → List InfoRow
rows_with key name rows = filter (λ row. bytes_eq (key row) name) rows

-- the group of the name
abbrev pub group_of : (InfoRow → List ℕ) → List InfoRow → List ℕ → Group
group_of key rows name =
    record { name = name; bytes = bytes_of (rows_with key name rows); calls = calls_of (rows_with key name rows) }

-- the keys of the rows in byte order, each once
abbrev pub names_of : (InfoRow → List ℕ) → List InfoRow → List (List ℕ)
names_of key [] = []
names_of key (row ∷ rows) = insert_key byte_order (names_of key rows) (key row)

-- a group for each key
abbrev pub groups_of : (InfoRow → List ℕ) → List InfoRow → List Group
groups_of key rows = map (group_of key rows) (names_of key rows)
