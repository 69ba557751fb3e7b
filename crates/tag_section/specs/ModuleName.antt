-- The form of a module's name.
use Rattle.std.specs.Prelude.{ℕ, ◌==◌, Bool, ◌&&◌, ◌||◌, not, List, length, codes, nat_le, IsTrue}
use Rattle.std.specs.Char.{is_ascii_alphanumeric}
use Rattle.std.specs.List.{list_all, list_any}
use Rattle.std.specs.Str.{bytes_eq}

-- the name of the section of built-in code
abbrev pub kernel_name : List ℕ
kernel_name = codes "kernel"

-- a letter, a digit, `_` or `-`
unfoldable pub is_module_byte : ℕ → Bool
is_module_byte byte = is_ascii_alphanumeric byte || list_any (λ mark. mark == byte) (codes "_-")

-- a module's name: 1 to 55 module bytes, and not `kernel`
unfoldable pub is_module_name : List ℕ → Bool
is_module_name word =
    nat_le 1 (length word) && nat_le (length word) 55 && list_all is_module_byte word && not (bytes_eq word kernel_name)

-- the word is a module's name
abbrev pub IsModuleName : List ℕ → Type 0
IsModuleName word = IsTrue (is_module_name word)
