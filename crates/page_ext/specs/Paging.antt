-- What an allocation gives.
use Rattle.std.specs.Prelude.{ℕ, ◌≡◌, ⊤, true, IsTrue, Option, Some, None}
use Rattle.tag_model.specs.declared.state.Tag.{Tag}
use Rattle.tag_model.specs.RefMoves.{reference_to, open_moves}
use Rattle.tag_model.specs.StepRules.{may_begin}
use Rattle.tag_model.specs.ListMachine.{RefOp, Open, Mark}
use Rattle.tag_rule.specs.Shown.{CpuShown}
use Rattle.tag_ref.specs.Refs.{moved_by}
use Rattle.buddy.specs.Frames.{least_start}
use Rattle.page_ext.specs.Blocks.{block_at, with_frames, page_bytes}
use Rattle.page_ext.specs.Shown.{NodeShown, BlockShown, Fits, block_of}

-- the CPU may count under the tag: there is none, or it is one of the kernel's or of a module that the CPU is inside
abbrev pub MayCount : Option Tag → CpuShown → Type 0
MayCount None cpu = ⊤
MayCount (Some tag) cpu = IsTrue (may_begin cpu.board.shape tag cpu.part.runs)

-- the block at the least start, which is taken; its bytes and one call are the CPU's moves under the tag, and none without one
pub record GivesBlock (tag : Option Tag) (order : ℕ) (node after : NodeShown) (cpu cpu_after : CpuShown) (block : BlockShown) : Type 0 where
  pub start : least_start node.node.frames order ≡ Some block.frame
  pub given : block_of block ≡ block_at tag node.node.cpu order block.frame
  pub table : block.cell.board ≡ cpu.board
  pub fits : Fits block
  pub taken : after ≡ record node { node = with_frames true block.frame order node.node }
  pub moves : cpu_after ≡ moved_by (open_moves cpu.part.number (reference_to tag (page_bytes order))) cpu

-- the allocation as an op of the list machine
abbrev pub alloc_op : Option Tag → ℕ → ℕ → RefOp
alloc_op None size place = Mark place
alloc_op (Some tag) size place = Open place tag size
