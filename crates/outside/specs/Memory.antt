-- What contracts see of a source and of a sink in memory.
use Rattle.std.specs.Prelude.{ℕ, ◌-◌, ◌⊎◌, ◌≡◌, List, ◌++◌, length, take, drop, min, Contains}
use Rattle.outside.specs.Faults.{one_more}

-- the bytes not yet read, the numbers of the calls that fail, the most bytes in a call, the number of the next call, the count of faults
pub record Reading : Type 0 where
  pub left : List ℕ
  pub failing : List ℕ
  pub piece : ℕ
  pub next : ℕ
  pub faults : ℕ

-- the bytes taken, how many there is room for, the numbers of the calls that fail, the most bytes in a call, the number of the next call, the count of faults
pub record Writing : Type 0 where
  pub taken : List ℕ
  pub room : ℕ
  pub failing : List ℕ
  pub piece : ℕ
  pub next : ℕ
  pub faults : ℕ

-- the reading after a call that gave n bytes
abbrev pub after_giving : ℕ → Reading → Reading
after_giving n r = record r { left = drop n r.left; next = one_more r.next }

-- the reading after a call that failed
abbrev pub after_refusing : Reading → Reading
after_refusing r = record r { next = one_more r.next; faults = one_more r.faults }

-- how many bytes a call gives into a buffer of this length
abbrev pub given_count : ℕ → Reading → ℕ
given_count buffer_length r = min r.piece (min buffer_length (length r.left))

-- how many more bytes fit
abbrev pub room_left : Writing → ℕ
room_left w = w.room - length w.taken

-- how many of these bytes a call takes
abbrev pub taken_count : List ℕ → Writing → ℕ
taken_count bytes w = min w.piece (min (length bytes) (room_left w))

-- a call fails: its number is among those that fail, or there is no room
abbrev pub IsRefused : Writing → Type 0
IsRefused w = Contains w.failing w.next ⊎ (room_left w ≡ 0)

-- the writing after a call that took the first n of these bytes
abbrev pub after_taking : ℕ → List ℕ → Writing → Writing
after_taking n bytes w = record w { taken = w.taken ++ take n bytes; next = one_more w.next }

-- the writing after a call that failed
abbrev pub after_failing : Writing → Writing
after_failing w = record w { next = one_more w.next; faults = one_more w.faults }
