-- What rows are grouped by.
use Rattle.std.specs.Prelude.{ℕ, Bool, List, ◌++◌, Option, Some, None, codes, if◌then◌else◌}
use Rattle.tag_section.specs.ModuleName.{kernel_name}
use Rattle.info_read.specs.declared.row.InfoRow.{InfoRow}
use Rattle.info_group.specs.declared.key.Key.{Key}
use Rattle.info_group.specs.declared.key.Key.TheVariants.{File, Module}

-- the file of the row's tag
abbrev pub file_key : InfoRow → List ℕ
file_key row = row.tag.file

-- `kernel` without a module, the module's name, or the name with `:kept`
abbrev pub label_of : Option (List ℕ) → Bool → List ℕ
label_of None kept = kernel_name
label_of (Some name) kept = if kept then name ++ codes ":kept" else name

-- the label of the row's module
abbrev pub module_key : InfoRow → List ℕ
module_key row = label_of row.module row.kept

-- the key of a row
abbrev pub key_of : Key → InfoRow → List ℕ
key_of File = file_key
key_of Module = module_key
