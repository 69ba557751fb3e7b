-- A read of the sweep.
use Rattle.std.specs.Prelude.{◌≡◌, ℕ, List, slice_index}
use Rattle.tag_model.specs.declared.shape.Shape.{Shape}
use Rattle.tag_model.specs.declared.state.CpuPart.{CpuPart}
use Rattle.tag_model.specs.declared.state.ListPart.{ListPart}
use Rattle.tag_model.specs.declared.state.Reader.{Reader}
use Rattle.tag_model.specs.StepRules.{Scans}
use Rattle.tag_model.specs.WordState.{word_place}

-- one step of the step rules: the sweep reads this word, of the CPU at which it stands
pub record ReadsWord (k : Shape) (left : List ℕ) (r : Reader) (word : ℕ) (old new : ListPart) : Type 0 where
  pub cpu : CpuPart
  pub row : Scans k left r cpu old new
  pub word_is : word ≡ slice_index cpu.words (word_place r.pass r.tag)
