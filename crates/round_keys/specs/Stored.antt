-- What the store tells of its keys.
use Rattle.std.specs.Prelude.{ℕ, ◌≡◌, Bool, false, Option, Some, None, IsTrue, List, count_by, sum_by}
use Rattle.std.specs.FinMap.Entries.{find}
use Rattle.std.specs.Ordering.{nat_cmp}
use Rattle.std.specs.List.{flat_map}
use Rattle.std.specs.Option.{option_and_then}
use Rattle.tag_model.specs.Telling.{is_covered_by}
use Rattle.tag_model.specs.Index.{Slot}
use Rattle.tag_model.specs.declared.state.Held.{Held}
use Rattle.tag_model.specs.declared.state.Held.TheVariants as held
use Rattle.tag_model.specs.declared.state.Tag.{Tag}
use Rattle.reclaim.specs.State.{LockedShown, part_of}
use Rattle.trace_play.specs.Live.{Content, Live, held_of}
use Rattle.trace_play.specs.Machine.{content_cell}
use Rattle.tag_model.specs.Reference.{is_counted}
use Rattle.round_worker.specs.declared.keys.Kept.{Kept}
use Rattle.round_worker.specs.Cells.{IsOfChecked, kept_seat, kept_word}
use Rattle.round_worker.specs.Kept.{KeyList, content_of, live_of}

-- a counted reference's tag is the kernel's, or a record of the list has it in its range
abbrev pub IsCovered : LockedShown → Kept → Type 0
IsCovered locked kept =
    (tag : Tag) (size : ℕ) → held_of (content_of kept) ≡ held.Counted tag size → IsTrue (is_covered_by locked.board.shape (part_of locked).records tag)

-- how many references of the keys are counted
abbrev pub counted_in : Live → ℕ
counted_in live = count_by (λ (entry : Slot × Held). is_counted entry.1) (flat_map (λ (entry : ℕ × Content). content_cell entry.1) live)

-- how many references that some pages hold are counted
abbrev pub counts_slot : Option Kept → Bool
counts_slot None = false
counts_slot (Some kept) = is_counted (held_of (content_of kept))

abbrev pub counts_on : List (List (Option Kept)) → ℕ
counts_on pages = sum_by (λ page. count_by counts_slot page) pages

-- the references of the keys by cell
abbrev pub key_cells : KeyList → List (Slot × Held)
key_cells keys = flat_map (λ (entry : ℕ × Content). content_cell entry.1) (live_of keys)

-- their cells are of tables of checked shapes
abbrev pub AreOfChecked : KeyList → Type 0
AreOfChecked keys = (key : ℕ) (kept : Kept) → find nat_cmp key keys ≡ Some kept → IsOfChecked (kept_seat kept)

-- the word of a cell, if what is bound at a place has it
abbrev pub bound_word : ℕ → Option Kept → Option ℕ
bound_word index slot = option_and_then (kept_word index) slot
