-- The lines of a text. Each is ended by one newline, the byte 10.
use Rattle.std.specs.Prelude.{ℕ, ◌≤◌, Bool, List, [], ◌∷◌, ◌==◌, nat_le, ◌&&◌, length}
use Rattle.std.specs.List.{slice_split}

abbrev pub is_newline : ℕ → Bool
is_newline b = b == 10

-- a byte that may stand in a line: a printable one of ASCII, or the space
abbrev pub is_form_byte : ℕ → Bool
is_form_byte b = nat_le 32 b && nat_le b 126

abbrev pub all_but_last : {X : Type 0} → List X → List X
all_but_last [] = []
all_but_last (x ∷ []) = []
all_but_last (x ∷ y ∷ ys) = x ∷ all_but_last (y ∷ ys)

abbrev pub last_or : {X : Type 0} → X → List X → X
last_or d [] = d
last_or d (x ∷ xs) = last_or x xs

-- the whole lines, without their newlines
unfoldable pub lines_of : List ℕ → List (List ℕ)
lines_of bytes = all_but_last (slice_split is_newline bytes)

-- what stands behind the last newline: a line that is cut off, or nothing
unfoldable pub tail_of : List ℕ → List ℕ
tail_of bytes = last_or [] (slice_split is_newline bytes)

-- no longer than an input may be
abbrev pub FitsInput : List ℕ → Type 0
FitsInput text = length text ≤ 4194304
