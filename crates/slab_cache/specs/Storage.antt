-- What an allocation gives.
use Rattle.std.specs.Prelude.{ℕ, Bool, true, false, Option, Some, None}
use Rattle.tag_model.specs.declared.state.Held.{Held}
use Rattle.tag_model.specs.declared.state.Held.TheVariants as held
use Rattle.page_ext.specs.Blocks.{Block}

-- a block; an object, by the frame of its slab, its place there, the vector of its cell and what that holds; an object without a cell
pub data Storage : Type 0 where
  Pages : (block : Block) → Storage
  Object : (home frame place vector : ℕ) (holds : Held) → Storage
  Uncounted : (home frame place : ℕ) → Storage

abbrev pub home_of : Storage → ℕ
home_of (Pages block) = block.home
home_of (Object home frame place vector holds) = home
home_of (Uncounted home frame place) = home

-- what its cell holds
abbrev pub held_of : Storage → Held
held_of (Pages block) = block.holds
held_of (Object home frame place vector holds) = holds
held_of (Uncounted home frame place) = held.None

abbrev pub has_cell : Storage → Bool
has_cell (Pages block) = true
has_cell (Object home frame place vector holds) = true
has_cell (Uncounted home frame place) = false

-- an object at a place of a slab, which has a vector or none
abbrev pub object_at : ℕ → ℕ → ℕ → Option ℕ → Held → Storage
object_at home frame place None holds = Uncounted home frame place
object_at home frame place (Some vector) holds = Object home frame place vector holds
