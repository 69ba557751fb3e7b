-- A taken run with its cells counted is the block that an allocation gives.
use Rattle.std.proofs.Common.{ℕ, ◌≡◌, ◌+◌, ◌^◌, ◌<◌, ◌≤◌, Bool, true, List, Option, Some, refl, sym, ap, ◌∙◌, subst}
use Rattle.tag_model.specs.declared.state.Tag.{Tag}
use Rattle.tag_model.specs.declared.state.Held.{Held}
use Rattle.tag_model.specs.Index.{page_index}
use Rattle.tag_model.specs.RefMoves.{reference_to, open_moves}
use Rattle.tag_rule.specs.Shown.{Board, CellShown, CpuShown}
use Rattle.tag_ref.specs.Refs.{moved_by}
use Rattle.buddy.specs.Frames.{least_start, marked}
use Rattle.page_ext.specs.Blocks.{Block, page_bytes}
use Rattle.page_ext.specs.Shown.{NodeShown, BlockShown, Fits}
use Rattle.page_ext.specs.Paging.{GivesBlock}

abbrev shown_node : Board → ℕ → List Bool → NodeShown
shown_node board cpu frames = record { board = board; node = record { cpu = cpu; frames = frames } }

abbrev shown_block : ℕ → ℕ → ℕ → CellShown → BlockShown
shown_block home frame order cell = record { home = home; frame = frame; order = order; cell = cell }

pub gives_block : (tag : Option Tag) (order start first number : ℕ) (board after_board : Board) (frames after : List Bool) (cell : CellShown) (cpu cpu_after : CpuShown)
    → least_start frames order ≡ Some start
    → cell ≡ record { board = board; first = first; count = 2 ^ order; held = reference_to tag (page_bytes order) }
    → first ≡ page_index board.shape number start → board ≡ cpu.board → number < board.shape.cpus → start + 2 ^ order ≤ board.shape.frames
    → after ≡ marked true start order frames → after_board ≡ board
    → cpu_after ≡ moved_by (open_moves cpu.part.number (reference_to tag (page_bytes order))) cpu
    → GivesBlock tag order (record { board = board; node = record { cpu = number; frames = frames } }) (record { board = after_board; node = record { cpu = number; frames = after } })
    cpu cpu_after (record { home = number; frame = start; order = order; cell = cell })
gives_block tag order start first number board after_board frames after cell cpu cpu_after least is place table one within taken same moves =
    record {
      start = least;
      given = (let with_held : Held → Block = λ h. record { home = number; frame = start; order = order; holds = h } in ap with_held (ap (λ c. c.held) is));
      table = ap (λ c. c.board) is ∙ table;
      fits = subst (λ c. Fits (shown_block number start order c)) (sym is) (record { first = place; count = refl; home = one; frames = within });
      taken = ap (λ b. shown_node b number after) same ∙ ap (shown_node board number) taken;
      moves = moves;
    }
