use Rattle.std.specs.Prelude.{ℕ, ◌+◌, ◌-◌, ◌%◌, ◌^◌}

-- what a 64-bit word keeps of a number
abbrev pub wrap : ℕ → ℕ
wrap n = n % 2 ^ 64

-- what a 64-bit word keeps of up - down, which may be below 0
abbrev pub wrap_minus : ℕ → ℕ → ℕ
wrap_minus up down = (up + (2 ^ 64 - down % 2 ^ 64)) % 2 ^ 64
