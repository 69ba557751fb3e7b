-- Nodes of frames, and blocks of them, with no table of words.
use Rattle.std.specs.Prelude.{ℕ, ◌*◌, ◌^◌, ◌==◌, Bool, true, false, Option, List}
use Rattle.tag_model.specs.declared.state.Tag.{Tag}
use Rattle.tag_model.specs.declared.state.Held.{Held}
use Rattle.tag_model.specs.declared.state.Held.TheVariants as held
use Rattle.tag_model.specs.RefMoves.{reference_to}
use Rattle.buddy.specs.Frames.{marked}

-- a CPU's frames, each taken or free
pub record Node : Type 0 where
  pub cpu : ℕ
  pub frames : List Bool

-- the 2 ^ order frames of a home from one on, and what their cell holds
pub record Block : Type 0 where
  pub home : ℕ
  pub frame : ℕ
  pub order : ℕ
  pub holds : Held

abbrev pub page_bytes : ℕ → ℕ
page_bytes order = 4096 * 2 ^ order

-- the 2 ^ order frames from one on are taken, or free
abbrev pub with_frames : Bool → ℕ → ℕ → Node → Node
with_frames taken frame order node = record node { frames = marked taken frame order node.frames }

-- the block of a CPU that begins at a frame, counted under a tag, or marked as memory that isn't counted
abbrev pub block_at : Option Tag → ℕ → ℕ → ℕ → Block
block_at tag cpu order frame = record { home = cpu; frame = frame; order = order; holds = reference_to tag (page_bytes order) }

-- the cell is marked, or counts all bytes of so many frames
abbrev pub is_whole : ℕ → Held → Bool
is_whole order held.None = false
is_whole order held.Empty = true
is_whole order (held.Counted tag size) = size == page_bytes order
