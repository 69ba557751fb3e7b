-- What is left of a line that is cut word by word.
use Rattle.std.specs.Prelude.{ℕ, Bool, true, false, List, [], ◌==◌, length}
use Rattle.std.specs.List.{list_any}
use Rattle.text_form.specs.Words.{words_of}

-- the words of what stands behind a space, or none where no space followed
abbrev pub words_left : Bool → List ℕ → List (List ℕ)
words_left true rest = words_of rest
words_left false rest = []

abbrev pub has_empty : List (List ℕ) → Bool
has_empty words = list_any (λ word. length word == 0) words
