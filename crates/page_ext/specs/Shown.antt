-- What the types show, and what holds of them.
use Rattle.std.specs.Prelude.{ℕ, ◌≡◌, ◌+◌, ◌-◌, ◌%◌, ◌^◌, ◌<◌, ◌≤◌, Bool, false, IsTrue, List, Some, length, slice_get}
use Rattle.tag_model.specs.declared.state.Held.{Held}
use Rattle.tag_model.specs.declared.state.Held.TheVariants as held
use Rattle.tag_model.specs.Index.{page_index}
use Rattle.tag_rule.specs.Shown.{Board, CellShown, PoolShown, has}
use Rattle.page_ext.specs.Blocks.{Node, Block, is_whole}

pub record NodeShown : Type 0 where
  pub board : Board
  pub node : Node

pub record BlockShown : Type 0 where
  pub home : ℕ
  pub frame : ℕ
  pub order : ℕ
  pub cell : CellShown

-- the block without its table
abbrev pub block_of : BlockShown → Block
block_of block = record { home = block.home; frame = block.frame; order = block.order; holds = block.cell.held }

-- its seat has just the page cells of its frames
pub record Fits (block : BlockShown) : Type 0 where
  pub first : block.cell.first ≡ page_index block.cell.board.shape block.home block.frame
  pub count : block.cell.count ≡ 2 ^ block.order
  pub home : block.home < block.cell.board.shape.cpus
  pub frames : block.frame + 2 ^ block.order ≤ block.cell.board.shape.frames

-- its reference is of all of it
abbrev pub IsWhole : BlockShown → Type 0
IsWhole block = IsTrue (is_whole block.order block.cell.held)

-- the block with another reference
abbrev pub holding : Held → BlockShown → BlockShown
holding held block = record block { cell = record block.cell { held = held } }

-- ---- its halves, of one order less

-- the cells of the first half, with what the block holds
abbrev pub low_half : BlockShown → BlockShown
low_half block = record block { order = block.order - 1; cell = record block.cell { count = 2 ^ (block.order - 1) } }

-- the cells of the second half, which hold nothing
abbrev pub high_half : BlockShown → BlockShown
high_half block =
    record block {
      frame = block.frame + 2 ^ (block.order - 1);
      order = block.order - 1;
      cell = record block.cell { first = block.cell.first + 2 ^ (block.order - 1); count = 2 ^ (block.order - 1); held = held.None };
    }

-- ---- what holds of every node and of every block

-- the CPU and its frames are of the shape, and each frame that is free has its cell in the node's pool
pub record IsNode (cpu : ℕ) (frames : List Bool) (pool : PoolShown) : Type 0 where
  pub one : cpu < pool.board.shape.cpus
  pub few : length frames ≤ pool.board.shape.frames
  pub cells : (frame : ℕ) → slice_get frames frame ≡ Some false → IsTrue (has pool (page_index pool.board.shape cpu frame))

pub record IsBlock (frame order : ℕ) : Type 0 where
  pub small : order ≤ 10
  pub aligned : frame % 2 ^ order ≡ 0
  pub within : frame + 2 ^ order ≤ 1024
