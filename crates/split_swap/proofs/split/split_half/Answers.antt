use Rattle.std.proofs.Common.{◌≡◌, ap, ◌∙◌}
use Rattle.tag_model.specs.RefMoves.{part_of}
use Rattle.tag_rule.specs.Shown.{CellShown}
use Rattle.tag_ref.specs.Refs.{holding}
use Rattle.split_swap.proofs.Halving.{first_part, second_part}
use Rattle.split_swap.proofs.split.split_half.Goals as goal

pub returns-clause-first : goal.returns-clause-first
returns-clause-first c =
    let half : CellShown → CellShown = λ cell. holding (part_of 2 cell.held) cell in
    first_part c.args.block c.halve-first.result.0 c.split_ref.new.first c.requires.some c.halve-first.ensures.first (c.split_ref.ensures.first ∙ ap half c.cell_mut.ensures.value)

pub returns-clause-second : goal.returns-clause-second
returns-clause-second c =
    let whole : c.cell_mut.result.now.held ≡ c.args.block.cell.held = ap (λ cell. cell.held) c.cell_mut.ensures.value ∙ ap (λ b. b.cell.held) c.halve-first.ensures.first in
    second_part c.args.block c.halve-first.result.1 c.split_ref.new.second c.requires.some c.halve-first.ensures.second
    (c.split_ref.ensures.second ∙ ap (λ cell. holding (part_of 2 c.cell_mut.result.now.held) cell) c.cell_mut-2.ensures.value ∙ ap (λ h. holding (part_of 2 h) c.halve-first.result.1.cell) whole)
