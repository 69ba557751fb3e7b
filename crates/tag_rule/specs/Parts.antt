-- What a step makes of a CPU's part.
use Rattle.std.specs.Prelude.{ℕ, Some, List, [], ◌∷◌}
use Rattle.tag_model.specs.declared.shape.Shape.{Shape}
use Rattle.tag_model.specs.declared.state.CpuPart.{CpuPart}
use Rattle.tag_model.specs.declared.state.Hand.{Hand}
use Rattle.tag_model.specs.declared.state.Kind.TheVariants.{Bytes}
use Rattle.tag_model.specs.declared.state.Part.{Part}
use Rattle.tag_model.specs.declared.state.Part.TheVariants.{Cpu}
use Rattle.tag_model.specs.Laws.{Safe}
use Rattle.tag_model.specs.Shape.{IsChecked}
use Rattle.tag_model.specs.StepRules.{Becomes, raised, lowered}
use Rattle.tag_rule.specs.declared.cpu.WordStep.{WordStep}

-- a step on the bytes under the hand's tag, after which so many bytes are in hand
abbrev pub bytes_step : Hand → ℕ → WordStep
bytes_step h n = record { kind = Bytes; tag = h.tag.number; hand = Some (record h { bytes = n }) }

-- the CPU with the word raised, or lowered, and the step's hand
abbrev pub raises_to : WordStep → ℕ → CpuPart → CpuPart
raises_to step n c = record c { words = raised step.kind step.tag n c.words; hand = step.hand }

abbrev pub falls_to : WordStep → ℕ → CpuPart → CpuPart
falls_to step n c = record c { words = lowered step.kind step.tag n c.words; hand = step.hand }

-- a safe state stays safe where the CPU becomes the other
abbrev pub KeepsCpu : Shape → CpuPart → CpuPart → Type 0
KeepsCpu k c d = (ps qs : List Part) → IsChecked k → Becomes (Cpu c ∷ []) (Cpu d ∷ []) ps qs → Safe k ps → Safe k qs
