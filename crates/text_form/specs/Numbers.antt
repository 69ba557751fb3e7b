-- Numbers as words.
use Rattle.std.specs.Prelude.{ℕ, Bool, List, [], ◌∷◌, Option, Some, None, ◌==◌, ◌+◌, ◌-◌, ◌*◌, nat_le, nat_lt, ◌&&◌, if◌then◌else◌, length}
use Rattle.std.specs.Option.{option_and_then}

-- one of `0` to `9`
abbrev pub is_digit : ℕ → Bool
is_digit b = nat_le 48 b && nat_le b 57

-- the number that n and then the digits spell
abbrev pub number_after : ℕ → List ℕ → Option ℕ
number_after n [] = Some n
number_after n (b ∷ bs) = if is_digit b then number_after (n * 10 + (b - 48)) bs else None

-- the number that is spelled `0`, or by a digit other than 0 followed by digits
abbrev pub number_value : List ℕ → Option ℕ
number_value [] = None
number_value (b ∷ bs) = if b == 48 then (if length bs == 0 then Some 0 else None) else number_after 0 (b ∷ bs)

-- the number that a word spells, where it lies in the range
abbrev pub number_in : ℕ → ℕ → List ℕ → Option ℕ
number_in low high word = option_and_then (λ n. if nat_le low n && nat_le n high then Some n else None) (number_value word)

-- the number that a word spells, where it is below the limit
abbrev pub number_below : ℕ → List ℕ → Option ℕ
number_below limit word = option_and_then (λ n. if nat_lt n limit then Some n else None) (number_value word)
