-- The text of groups.
use Rattle.std.specs.Prelude.{ℕ, List, ◌++◌, codes, decimal}
use Rattle.std.specs.List.{flat_map}
use Rattle.allocinfo.specs.Text.{right, signed_text}
use Rattle.allocinfo.specs.declared.print.TheConstants.{BYTES_PLACES, CALLS_PLACES}
use Rattle.info_group.specs.declared.group.Group.{Group}

-- a group's line: its bytes, its calls and its name
unfoldable pub group_text : Group → List ℕ
group_text group =
    right BYTES_PLACES (signed_text group.bytes) ++ codes " " ++ right CALLS_PLACES (decimal group.calls) ++ codes " "
    ++ group.name ++ codes "\n"

-- the lines of the groups, in their order
abbrev pub groups_text : List Group → List ℕ
groups_text groups = flat_map group_text groups
