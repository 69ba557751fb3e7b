-- What stays of a text to which a call could not append all.
use Rattle.std.specs.Prelude.{ℕ, ◌≡◌, List, length, take}

-- the whole begins with the front
abbrev pub IsPrefix : List ℕ → List ℕ → Type 0
IsPrefix front whole = take (length front) whole ≡ front
