-- Which bytes a call takes from a source, and which it hands to a sink.
use Rattle.std.specs.Prelude.{◌≡◌, ℕ, ◌+◌, ◌≤◌, ◌↔◌, List, [], length, take, ⊤, Option, None, Some}
use Rattle.std.specs.Io.KnownBytes.{Appends, Consumes}
use Rattle.outside.specs.declared.faults.ReadError.{ReadError}
use Rattle.outside.specs.declared.faults.ReadError.TheVariants.{Failed, TooLong, Memory}

-- where the bytes are told, a read gives 0 of them exactly at the end
abbrev pub IsZeroAtEnd : Option (List ℕ) → ℕ → Type 0
IsZeroAtEnd None n = ⊤
IsZeroAtEnd (Some bytes) n = (n ≡ 0) ↔ (bytes ≡ [])

-- how many bytes a refused reading took: one more than the limit where they are too many, else at most the limit
abbrev pub IsAmount : ℕ → ReadError → ℕ → Type 0
IsAmount limit TooLong n = n ≡ limit + 1
IsAmount limit Failed n = n ≤ limit
IsAmount limit (Memory _) n = n ≤ limit

-- a refused reading took some bytes, which stay taken
pub record Took (limit : ℕ) (error : ReadError) (old new : Option (List ℕ)) : Type 0 where
  pub bytes : List ℕ
  pub taken : Consumes old new bytes
  pub amount : IsAmount limit error (length bytes)

-- at most so many bytes were taken, which stay taken
pub record TookWithin (limit : ℕ) (old new : Option (List ℕ)) : Type 0 where
  pub bytes : List ℕ
  pub taken : Consumes old new bytes
  pub within : length bytes ≤ limit

-- a prefix of the bytes went out
pub record AppendsPrefix (old new : Option (List ℕ)) (bytes : List ℕ) : Type 0 where
  pub count : ℕ
  pub within : count ≤ length bytes
  pub sent : Appends old new (take count bytes)
