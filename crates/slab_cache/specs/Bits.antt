-- Sets of frames and of places as bits. No contract that others see speaks of them.
use Rattle.std.specs.Prelude.{ℕ, ◌≡◌, ◌≢◌, ◌*◌, ◌≤◌, ◌==◌, Bool, List, length, map, slice_index}
use Rattle.std.specs.Int.{bit_at}
use Rattle.std.specs.List.{range_with_len}
use Rattle.buddy.specs.Bits.{bit_of}
use Rattle.slab_cache.specs.Classes.{classes}

-- the class with a number
abbrev pub class_at : ℕ → ℕ
class_at index = slice_index classes index

-- the first bits of the words, each true where it is set
abbrev pub set_bits : ℕ → List ℕ → List Bool
set_bits count words = map (λ i. bit_of words i == 1) (range_with_len 0 count)

pub record IsFrameSet (words : List ℕ) (frames : ℕ) : Type 0 where
  pub words_few : length words ≤ 17
  pub enough : frames ≤ 64 * length words
  pub beyond : (i : ℕ) → frames ≤ i → bit_of words i ≡ 0

-- one bit is now set, or unset, and no other changed
pub record IsPut (words new : List ℕ) (bit : ℕ) (inside : Bool) : Type 0 where
  pub same_length : length new ≡ length words
  pub here : (bit_of new bit == 1) ≡ inside
  pub other : (i : ℕ) → i ≢ bit → bit_of new i ≡ bit_of words i

-- the places of a slab: one is taken where its bit isn't set
abbrev pub places_of : ℕ → ℕ → List Bool
places_of objects free = map (λ i. bit_at free i == 0) (range_with_len 0 objects)
