-- The parts of a table that was just made.
use Rattle.std.specs.Prelude.{ℕ, ◌+◌, ◌*◌, None, List, [], ◌∷◌, ◌++◌, map, replicate}
use Rattle.std.specs.List.{range_with_len}
use Rattle.tag_model.specs.declared.shape.Shape.{Shape}
use Rattle.tag_model.specs.declared.state.CpuPart.{CpuPart}
use Rattle.tag_model.specs.declared.state.Held.TheVariants as held
use Rattle.tag_model.specs.declared.state.ListPart.{ListPart}
use Rattle.tag_model.specs.declared.state.Part.{Part}
use Rattle.tag_model.specs.declared.state.Part.TheVariants.{Cpu, Place, Modules, NextId}
use Rattle.tag_model.specs.declared.state.Sweep.TheVariants as sweep
use Rattle.tag_model.specs.Index.{first_cell}
use Rattle.tag_rule.specs.Rule.{view_of}
use Rattle.tag_rule.specs.declared.view.View.{View}

-- words of 0, no hand, no run and no note
abbrev pub fresh_cpu : Shape → ℕ → CpuPart
fresh_cpu k n = record { number = n; words = replicate (2 * k.tags) 0; hand = None; runs = []; notes = [] }

abbrev pub fresh_list : ListPart
fresh_list = record { records = []; sweep = sweep.None; stops = []; reads = 0; away = [] }

abbrev pub cpu_at : Shape → ℕ → Part
cpu_at k n = Cpu (fresh_cpu k n)

-- so many CPUs from the n-th on
abbrev pub fresh_cpus : Shape → ℕ → ℕ → List Part
fresh_cpus k n count = map (cpu_at k) (range_with_len n count)

-- a cell that holds nothing
abbrev pub empty_cell : ℕ → Part
empty_cell n = Place n held.None

abbrev pub places : List ℕ → List Part
places cells = map empty_cell cells

-- the page cells of all CPUs, and the object cells
abbrev pub page_count : Shape → ℕ
page_count k = k.cpus * k.frames

abbrev pub object_count : Shape → ℕ
object_count k = k.cpus * (k.vectors * 64)

-- all CPUs by rising number, all cells by rising index, the module list and the next id
abbrev pub first_parts : Shape → List Part
first_parts k = fresh_cpus k 0 k.cpus ++ (places (range_with_len (first_cell k) (page_count k + object_count k)) ++ (Modules fresh_list ∷ NextId 1 ∷ []))

abbrev pub first_view : Shape → View
first_view k = view_of (first_parts k)
