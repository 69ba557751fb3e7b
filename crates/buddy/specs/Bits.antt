-- Bits of words, and how a zone keeps its frames: a bit for each, set where the frame is free. No clause of a zone
-- speaks of them.
use Rattle.std.specs.Prelude.{ℕ, ◌≡◌, ◌+◌, ◌-◌, ◌*◌, ◌/◌, ◌%◌, ◌^◌, ◌<◌, ◌≤◌, ◌==◌, ◌⊎◌, Bool, not, List, length, get_or, map, count_by}
use Rattle.std.specs.Int.{bit_at}
use Rattle.std.specs.List.{range_with_len}

-- bit i of the words, one word after the other
unfoldable pub bit_of : List ℕ → ℕ → ℕ
bit_of words i = bit_at (get_or words (i / 64) 0) (i % 64)

-- `count` bits of a number are set, from bit s on
abbrev pub HasOnes : ℕ → ℕ → ℕ → Type 0
HasOnes word s count = (i : ℕ) → s ≤ i → i < s + count → bit_at word i ≡ 1

-- s is a multiple of 2 ^ order, and the 2 ^ order bits from it on are set
pub record IsRun (words : List ℕ) (order s : ℕ) : Type 0 where
  pub aligned : s % 2 ^ order ≡ 0
  pub ones : (i : ℕ) → s ≤ i → i < s + 2 ^ order → bit_of words i ≡ 1

pub record IsLeastRun (words : List ℕ) (order s : ℕ) : Type 0 where
  pub is : IsRun words order s
  pub least : (r : ℕ) → r < s → ¬ IsRun words order r

abbrev pub HasNoRun : List ℕ → ℕ → Type 0
HasNoRun words order = (s : ℕ) → ¬ IsRun words order s

-- `count` bits from the start on are turned, and no other
pub record IsFlipped (old new : List ℕ) (start count : ℕ) : Type 0 where
  pub same_length : length new ≡ length old
  pub inside : (i : ℕ) → start ≤ i → i < start + count → bit_of new i ≡ 1 - bit_of old i
  pub outside : (i : ℕ) → (i < start) ⊎ (start + count ≤ i) → bit_of new i ≡ bit_of old i

-- the frames that the words stand for
abbrev pub frames_of : ℕ → List ℕ → List Bool
frames_of frames words = map (λ i. bit_of words i == 0) (range_with_len 0 frames)

-- what holds of every zone: no bit past the frames is set, and the count is that of the free frames
pub record IsZone (words : List ℕ) (frames free : ℕ) : Type 0 where
  pub few : frames ≤ 1024
  pub words_few : length words ≤ 17
  pub enough : frames ≤ 64 * length words
  pub beyond : (i : ℕ) → frames ≤ i → bit_of words i ≡ 0
  pub counted : free ≡ count_by not (frames_of frames words)
