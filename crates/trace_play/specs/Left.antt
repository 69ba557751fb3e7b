-- What the cells of a table hold: each live reference is in its own, and the others hold nothing.
use Rattle.std.specs.Prelude.{ℕ, ◌≡◌, ◌≤◌, ◌==◌, Option, Some, None, List}
use Rattle.std.specs.List.{find}
use Rattle.std.specs.Option.{option_map}
use Rattle.tag_model.specs.declared.shape.Shape.{Shape}
use Rattle.tag_model.specs.declared.state.Held.{Held}
use Rattle.tag_model.specs.declared.state.Held.TheVariants as held
use Rattle.tag_model.specs.Index.{Slot, IsSlot, index_of}
use Rattle.tag_model.specs.RefWord.{held_word}
use Rattle.trace.specs.declared.traces.Trace.{Trace}
use Rattle.trace_play.specs.Machine.{Machine, live_cells}

abbrev pub held_or_none : Option (Slot × Held) → Held
held_or_none None = held.None
held_or_none (Some entry) = entry.1

-- the reference of the cell with the index, among some by cell
abbrev pub found_at : Shape → ℕ → List (Slot × Held) → Option (Slot × Held)
found_at k index cells = find (λ (entry : Slot × Held). index_of k entry.0 == index) cells

-- the word of that cell, if one of them has it
abbrev pub word_at : Shape → ℕ → List (Slot × Held) → Option ℕ
word_at k index cells = option_map (λ (entry : Slot × Held). held_word entry.1) (found_at k index cells)

abbrev pub held_at : Shape → Machine → ℕ → Held
held_at k m index = held_or_none (found_at k index (live_cells m))

-- whether a shape has as many CPUs, frames and vectors as a trace
pub record HasRoom (k : Shape) (trace : Trace) : Type 0 where
  pub cpus : trace.cpus ≤ k.cpus
  pub frames : trace.frames ≤ k.frames
  pub vectors : trace.vectors ≤ k.vectors

-- a live reference has a cell of the table, and is what that cell holds
pub record IsInItsCell (k : Shape) (m : Machine) (entry : Slot × Held) : Type 0 where
  pub slot : IsSlot k entry.0
  pub holds : held_at k m (index_of k entry.0) ≡ entry.1
