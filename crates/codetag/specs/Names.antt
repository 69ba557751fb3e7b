-- The forms of the words of a code tag.
use Rattle.std.specs.Prelude.{ℕ, ◌≤◌, ◌==◌, Bool, ◌&&◌, ◌||◌, List, length, codes, nat_le, IsTrue}
use Rattle.std.specs.Char.{is_ascii_alphanumeric}
use Rattle.std.specs.List.{list_all, list_any}

-- a letter, a digit, or one of `_ - . / +`
unfoldable pub is_file_byte : ℕ → Bool
is_file_byte byte = is_ascii_alphanumeric byte || list_any (λ mark. mark == byte) (codes "_-./+")

-- a letter, a digit, or one of `_ .`
unfoldable pub is_function_byte : ℕ → Bool
is_function_byte byte = is_ascii_alphanumeric byte || list_any (λ mark. mark == byte) (codes "_.")

-- a file's name: 1 to 127 file bytes
unfoldable pub is_file : List ℕ → Bool
is_file word = nat_le 1 (length word) && nat_le (length word) 127 && list_all is_file_byte word

-- a function's name: 1 to 127 function bytes
unfoldable pub is_function : List ℕ → Bool
is_function word = nat_le 1 (length word) && nat_le (length word) 127 && list_all is_function_byte word

-- the word is a file's name
abbrev pub IsFile : List ℕ → Type 0
IsFile word = IsTrue (is_file word)

-- the word is a function's name
abbrev pub IsFunction : List ℕ → Type 0
IsFunction word = IsTrue (is_function word)

-- a line's number: from 1 to the greatest number of 32 bits
abbrev pub IsLine : ℕ → Type 0
IsLine line = (1 ≤ line) × (line ≤ 4294967295)
