-- The words of a line. Between two words stands one space, the byte 32.
use Rattle.std.specs.Prelude.{ℕ, Bool, List, [], ◌==◌, length}
use Rattle.std.specs.List.{slice_split, slice_index_or, list_any}

abbrev pub is_space : ℕ → Bool
is_space b = b == 32

-- An empty word shows two spaces side by side, or one at an end of the line.
unfoldable pub words_of : List ℕ → List (List ℕ)
words_of line = slice_split is_space line

-- the word at a place, counted from 0, and the empty word where there is none
abbrev pub word_at : List ℕ → ℕ → List ℕ
word_at line place = slice_index_or (words_of line) place []

abbrev pub has_empty_word : List ℕ → Bool
has_empty_word line = list_any (λ word. length word == 0) (words_of line)
