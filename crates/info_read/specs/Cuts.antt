-- Texts cut in two.
use Rattle.std.specs.Prelude.{ℕ, ◌+◌, ◌-◌, ◌==◌, List, [], ◌∷◌, length, drop, Option, Some, None, if◌then◌else◌}
use Rattle.std.specs.Option.{option_and_then, option_map}

infixl 10 ◌>>=◌
abbrev pub ◌>>=◌ : {A B : Type 0} → Option A → (A → Option B) → Option B
o >>= f = option_and_then f o

-- what stands before the first such byte, and what behind it
abbrev pub cut : ℕ → List ℕ → Option (List ℕ × List ℕ)
cut mark [] = None
cut mark (b ∷ bs) = if b == mark then Some ([], bs) else option_map (λ p. (b ∷ p.0, p.1)) (cut mark bs)

-- what follows the word that the text begins with
abbrev pub after_word : List ℕ → List ℕ → Option (List ℕ)
after_word [] text = Some text
after_word (w ∷ ws) [] = None
after_word (w ∷ ws) (b ∷ bs) = if b == w then after_word ws bs else None

-- how many spaces a text begins with
abbrev pub spaces_before : List ℕ → ℕ
spaces_before [] = 0
spaces_before (b ∷ bs) = if b == 32 then spaces_before bs + 1 else 0

-- the word at the right of so many places, and what stands behind the space that follows it
unfoldable pub unpadded : ℕ → List ℕ → Option (List ℕ × List ℕ)
unpadded places text = do
  parts ← cut 32 (drop (spaces_before text) text)
  if spaces_before text == places - length parts.0 then Some parts else None
