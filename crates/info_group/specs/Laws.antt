-- What the groups of rows are, by their marks.
use Rattle.std.specs.Prelude.{ℕ, ◌≡◌, ◌↔◌, List, map, All, Contains}
use Rattle.std.specs.List.Sorted.{IsStrictlySortedBy}
use Rattle.info_read.specs.declared.row.InfoRow.{InfoRow}
use Rattle.info_group.specs.declared.group.Group.{Group}
use Rattle.info_group.specs.Grouping.{byte_order, bytes_of, calls_of, rows_with}

-- the names of the groups
abbrev pub group_names : List Group → List (List ℕ)
group_names groups = map (λ group. group.name) groups

-- each name is below those after it in byte order, a name stands there exactly where it is some row's key, and each
-- group has the sums of the rows with its name as their key
pub record IsGrouping (key : InfoRow → List ℕ) (rows : List InfoRow) (groups : List Group) : Type 0 where
  pub rises : IsStrictlySortedBy byte_order (group_names groups)
  pub of_rows : (name : List ℕ) → Contains (group_names groups) name ↔ Contains (map key rows) name
  pub bytes_sum : All (λ group. group.bytes ≡ bytes_of (rows_with key group.name rows)) groups
  pub calls_sum : All (λ group. group.calls ≡ calls_of (rows_with key group.name rows)) groups
