-- A CPU's words, as its seat shows them.
use Rattle.std.specs.Prelude.{ℕ, List, [], ◌∷◌, ◌++◌, map, slice_index}
use Rattle.tag_model.specs.declared.state.Kind.{Kind}
use Rattle.tag_model.specs.declared.state.ListPart.{ListPart}
use Rattle.tag_model.specs.declared.state.Part.{Part}
use Rattle.tag_model.specs.declared.state.Part.TheVariants.{Cpu, Modules, NextId}
use Rattle.tag_model.specs.WordState.{word_place}
use Rattle.tag_rule.specs.Shown.{CpuShown}

-- the CPU's word of a kind for a tag
abbrev pub word_in : Kind → ℕ → CpuShown → ℕ
word_in kind t cpu = slice_index cpu.part.words (word_place kind t)

-- the parts of these CPUs, the module list and the right to give the next id
abbrev pub lent : List CpuShown → ListPart → ℕ → List Part
lent cpus l next = map (λ (c : CpuShown). Cpu c.part) cpus ++ (Modules l ∷ NextId next ∷ [])
