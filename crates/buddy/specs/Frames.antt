-- The frames of a zone: a list, each frame taken or free.
use Rattle.std.specs.Prelude.{ℕ, ◌≡◌, ◌+◌, ◌%◌, ◌^◌, ◌<◌, ◌≤◌, ◌==◌, ◌&&◌, Bool, false, not, nat_le, List, ◌++◌, length, take, drop, replicate, slice_get, slice_range, Option, Some}
use Rattle.std.specs.List.{find, list_any, range_with_len}

-- whether a take of the order may begin at the start: it is a multiple of 2 ^ order, and the 2 ^ order frames from it
-- on lie in the zone and are free
abbrev pub is_start : List Bool → ℕ → ℕ → Bool
is_start frames order start =
    (start % 2 ^ order == 0) && (nat_le (start + 2 ^ order) (length frames) && not (list_any (λ taken. taken) (slice_range frames start (start + 2 ^ order))))

-- the least such start, if there is one
abbrev pub least_start : List Bool → ℕ → Option ℕ
least_start frames order = find (is_start frames order) (range_with_len 0 (length frames))

-- the frames, with the 2 ^ order from the start on taken, or free
abbrev pub marked : Bool → ℕ → ℕ → List Bool → List Bool
marked taken start order frames = take start frames ++ (replicate (2 ^ order) taken ++ drop (start + 2 ^ order) frames)

-- all of the 2 ^ order frames from the start on are frames of the zone and taken, or all are free
abbrev pub AllAre : Bool → List Bool → ℕ → ℕ → Type 0
AllAre taken frames start order = (frame : ℕ) → start ≤ frame → frame < start + 2 ^ order → slice_get frames frame ≡ Some taken

-- a start of the order, said as a relation
pub record IsStart (frames : List Bool) (order start : ℕ) : Type 0 where
  pub aligned : start % 2 ^ order ≡ 0
  pub free : AllAre false frames start order

-- it is a start, and none is less
pub record IsLeastStart (frames : List Bool) (order start : ℕ) : Type 0 where
  pub is : IsStart frames order start
  pub least : (other : ℕ) → other < start → ¬ IsStart frames order other

-- no start at all
abbrev pub HasNoStart : List Bool → ℕ → Type 0
HasNoStart frames order = (start : ℕ) → ¬ IsStart frames order start
