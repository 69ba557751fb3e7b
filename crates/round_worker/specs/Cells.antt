-- The word of a cell, if it is the first of a seat.
use Rattle.std.specs.Prelude.{ℕ, ◌==◌, Option, Some, None, IfSome, List, [], ◌∷◌, if◌then◌else◌}
use Rattle.std.specs.Option.{option_and_then, option_map, option_or}
use Rattle.tag_model.specs.RefWord.{held_word}
use Rattle.tag_model.specs.Shape.{IsChecked}
use Rattle.tag_rule.specs.Shown.{CellShown}
use Rattle.slab_cache.specs.Shown.{SlabShown, cell_of, slab_block}
use Rattle.round_worker.specs.declared.keys.Kept.{Kept}
use Rattle.round_worker.specs.declared.keys.Kept.TheVariants.{Nothing, Block, Object}

abbrev pub seat_word : ℕ → CellShown → Option ℕ
seat_word index seat = if seat.first == index then Some (held_word seat.held) else None

-- the seat of what a key is bound to, and of a slab
abbrev pub kept_seat : Kept → Option CellShown
kept_seat (Nothing order) = None
kept_seat (Block block) = Some block.cell
kept_seat (Object obj) = cell_of obj.stored

abbrev pub slab_seat : Option SlabShown → Option CellShown
slab_seat slab = option_map (λ (s : SlabShown). (slab_block s).cell) slab

-- the first that some of these give
abbrev pub first_some : {X Y : Type 0} → (X → Option Y) → List X → Option Y
first_some give [] = None
first_some give (x ∷ xs) = option_or (give x) (first_some give xs)

abbrev pub kept_word : ℕ → Kept → Option ℕ
kept_word index kept = option_and_then (seat_word index) (kept_seat kept)

abbrev pub slab_word : ℕ → Option SlabShown → Option ℕ
slab_word index slab = option_and_then (seat_word index) (slab_seat slab)

-- its table's shape is checked
abbrev pub IsOfChecked : Option CellShown → Type 0
IsOfChecked seat = IfSome seat (λ (s : CellShown). IsChecked s.board.shape)
