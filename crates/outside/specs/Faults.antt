-- What a fault of reading or writing leaves in the count of faults.
use Rattle.std.specs.Prelude.{◌≡◌, ℕ, ◌+◌, ◌-◌, ◌^◌, ◌<◌, ◌≤◌, ◌⊎◌, min, OnOk, OnErr, Result}

-- one more, of a count that stays at 2^64 - 1 once it is there
abbrev pub one_more : ℕ → ℕ
one_more count = min (count + 1) (2 ^ 64 - 1)

-- a count rose in a call: it is greater after it, or at its last value
abbrev pub Rose : ℕ → ℕ → Type 0
Rose before after = (before < after) ⊎ (after ≡ 2 ^ 64 - 1)

-- the count of faults does not fall in a call; a call that succeeds leaves it as it was, and one fails only where it rose
pub record HasCause {T E : Type 0} (before after : ℕ) (result : Result T E) : Type 0 where
  pub kept : before ≤ after
  pub steady : OnOk result (after ≡ before)
  pub cause : OnErr result (Rose before after)
