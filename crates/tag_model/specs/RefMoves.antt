-- What an allocation, a free, a split and a trim make of one reference, and the moves of the CPU that does it.
use Rattle.std.specs.Prelude.{ℕ, ◌+◌, ◌-◌, ◌/◌, ◌==◌, ◌&&◌, if◌then◌else◌, Bool, Option, Some, None, List, [], ◌∷◌, slice_index, slice_set, sum_by, fold}
use Rattle.tag_model.specs.declared.state.Tag.{Tag}
use Rattle.tag_model.specs.declared.state.Held.{Held}
use Rattle.tag_model.specs.declared.state.Held.TheVariants as held
use Rattle.tag_model.specs.declared.state.Kind.{Kind}
use Rattle.tag_model.specs.declared.state.Kind.TheVariants.{Bytes, Calls}
use Rattle.tag_model.specs.Moves.{Move}
use Rattle.tag_model.specs.Laws.{same_kind}
use Rattle.tag_model.specs.WordState.{word_place}
use Rattle.tag_model.specs.Wrap.{wrap_minus}

-- ---- one reference

-- what an allocation leaves in its place: with no tag, the mark of memory that isn't counted
abbrev pub reference_to : Option Tag → ℕ → Held
reference_to None size = held.Empty
reference_to (Some tag) size = held.Counted tag size

-- one of so many equal parts
abbrev pub part_of : ℕ → Held → Held
part_of parts held.None = held.None
part_of parts held.Empty = held.Empty
part_of parts (held.Counted tag size) = held.Counted tag (size / parts)

-- so many bytes less
abbrev pub trimmed : ℕ → Held → Held
trimmed bytes held.None = held.None
trimmed bytes held.Empty = held.Empty
trimmed bytes (held.Counted tag size) = held.Counted tag (size - bytes)

-- ---- its moves

abbrev pub raises : ℕ → Kind → Tag → ℕ → Move
raises cpu kind tag n = record { cpu = cpu; kind = kind; tag = tag.number; up = n; down = 0 }

abbrev pub lowers : ℕ → Kind → Tag → ℕ → Move
lowers cpu kind tag n = record { cpu = cpu; kind = kind; tag = tag.number; up = 0; down = n }

-- only what is counted is moved
abbrev pub if_counted : (Tag → ℕ → List Move) → Held → List Move
if_counted moves held.None = []
if_counted moves held.Empty = []
if_counted moves (held.Counted tag size) = moves tag size

abbrev pub open_moves : ℕ → Held → List Move
open_moves cpu = if_counted (λ tag size. raises cpu Calls tag 1 ∷ raises cpu Bytes tag size ∷ [])

abbrev pub close_moves : ℕ → Held → List Move
close_moves cpu = if_counted (λ tag size. lowers cpu Bytes tag size ∷ lowers cpu Calls tag 1 ∷ [])

-- a split adds a call for each part but the first, and no byte
abbrev pub split_moves : ℕ → ℕ → Held → List Move
split_moves cpu parts = if_counted (λ tag size. raises cpu Calls tag (parts - 1) ∷ [])

abbrev pub trim_moves : ℕ → ℕ → Held → List Move
trim_moves cpu bytes = if_counted (λ tag size. lowers cpu Bytes tag bytes ∷ [])

-- ---- what moves add up to

-- the move is on this kind of this tag, of whichever CPU
abbrev pub is_under : Kind → ℕ → Move → Bool
is_under kind tag move = same_kind kind move.kind && (move.tag == tag)

abbrev pub all_up : Kind → ℕ → List Move → ℕ
all_up kind tag moves = sum_by (λ (m : Move). if is_under kind tag m then m.up else 0) moves

abbrev pub all_down : Kind → ℕ → List Move → ℕ
all_down kind tag moves = sum_by (λ (m : Move). if is_under kind tag m then m.down else 0) moves

-- a CPU's words after a move, which changes one of them if it is the CPU's and none if it is another's
abbrev pub words_after_move : ℕ → List ℕ → Move → List ℕ
words_after_move cpu words m =
    if m.cpu == cpu then slice_set words (word_place m.kind m.tag) (wrap_minus (slice_index words (word_place m.kind m.tag) + m.up) m.down) else words

-- a CPU's words after some moves
abbrev pub words_after_moves : ℕ → List ℕ → List Move → List ℕ
words_after_moves cpu words moves = fold (words_after_move cpu) words moves
