-- Keys that lie in pages of 256 places each.
use Rattle.std.specs.Prelude.{ℕ, ◌+◌, ◌*◌, ◌≤◌, List, [], ◌∷◌, ◌++◌, Option, Some, None, All, IfSome, length, slice_index_or}

-- a page's places are those of its first keys; the others are empty
abbrev pub IsPage : {X : Type 0} → List (Option X) → Type 0
IsPage slots = length slots ≤ 256

abbrev pub slot_at : {X : Type 0} → List (Option X) → ℕ → Option X
slot_at slots place = slice_index_or slots place None

-- what the places from a key on hold
abbrev pub slots_from : {X : Type 0} → ℕ → List (Option X) → List (ℕ × X)
slots_from key [] = []
slots_from key (None ∷ slots) = slots_from (key + 1) slots
slots_from key (Some x ∷ slots) = (key, x) ∷ slots_from (key + 1) slots

-- what the pages from a number on hold
abbrev pub pages_from : {X : Type 0} → ℕ → List (List (Option X)) → List (ℕ × X)
pages_from number [] = []
pages_from number (page ∷ pages) = slots_from (256 * number) page ++ pages_from (number + 1) pages

-- what holds of all that a page holds
abbrev pub InSlots : {X : Type 0} → (X → Type 0) → List (Option X) → Type 0
InSlots P slots = All (λ slot. IfSome slot P) slots
