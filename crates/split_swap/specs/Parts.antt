-- The parts of a block: equal blocks of a lesser order, by rising frame, each with its share of the reference.
use Rattle.std.specs.Prelude.{ℕ, ◌+◌, ◌-◌, ◌*◌, ◌^◌, List, map}
use Rattle.std.specs.List.{range_with_len}
use Rattle.tag_model.specs.ListMachine.{RefOp, Split}
use Rattle.tag_model.specs.RefMoves.{part_of}
use Rattle.page_ext.specs.Blocks.{Block}
use Rattle.page_ext.specs.Shown.{BlockShown}

-- how many parts of an order a block of another has
abbrev pub parts_in : ℕ → ℕ → ℕ
parts_in order whole = 2 ^ (whole - order)

-- one of them
abbrev pub part_at : ℕ → ℕ → Block → Block
part_at order place block =
    record { home = block.home; frame = block.frame + place * 2 ^ order; order = order; holds = part_of (parts_in order block.order) block.holds }

-- the same with its cells
abbrev pub part_shown : ℕ → ℕ → BlockShown → BlockShown
part_shown order place block =
    record {
      home = block.home;
      frame = block.frame + place * 2 ^ order;
      order = order;
      cell = record block.cell {
        first = block.cell.first + place * 2 ^ order;
        count = 2 ^ order;
        held = part_of (parts_in order block.order) block.cell.held;
      };
    }

-- all of them
abbrev pub parts_shown : ℕ → BlockShown → List BlockShown
parts_shown order block = map (λ place. part_shown order place block) (range_with_len 0 (parts_in order block.order))

-- the split as an op of the list machine: the first part stays in the block's place, and the others go to theirs
abbrev pub split_op : ℕ → BlockShown → RefOp
split_op order block = Split block.cell.first (map (λ place. block.cell.first + place * 2 ^ order) (range_with_len 1 (parts_in order block.order - 1)))
