-- Numbers of a row.
use Rattle.std.specs.Prelude.{ℕ, ◌-◌, ◌^◌, ◌==◌, List, [], ◌∷◌, Option, None, if◌then◌else◌}
use Rattle.std.specs.Option.{option_map}
use Rattle.text_form.specs.Numbers.{number_in}

-- the word of 64 bits whose signed number a word spells
abbrev pub signed_of : List ℕ → Option ℕ
signed_of [] = None
signed_of (b ∷ bs) =
    if b == 45 then option_map (λ n. 2 ^ 64 - n) (number_in 1 (2 ^ 63) bs) else number_in 0 (2 ^ 63 - 1) (b ∷ bs)

-- the number of 64 bits that a word spells
abbrev pub unsigned_of : List ℕ → Option ℕ
unsigned_of word = number_in 0 (2 ^ 64 - 1) word
