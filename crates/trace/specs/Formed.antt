-- What holds of every trace that the reader gives.
use Rattle.std.specs.Prelude.{ℕ, ◌<◌, ◌≤◌, ◌≢◌, Bool, true, false, List, [], ◌∷◌, length, map, count_by, All}
use Rattle.std.specs.List.{flat_map}
use Rattle.tag_section.specs.Section.{Section, AreSections}
use Rattle.input_form.specs.Forms.{AreLineNumbers}
use Rattle.input_form.specs.Head.{AreTagged}
use Rattle.input_form.specs.Places.{IsKey, IsModule, IsTag}
use Rattle.trace.specs.declared.traces.Item.{Item}
use Rattle.trace.specs.declared.traces.Item.TheVariants as item
use Rattle.trace.specs.declared.traces.OnOp.{OnOp}
use Rattle.trace.specs.declared.traces.TraceOp.{TraceOp}
use Rattle.trace.specs.declared.traces.TraceOp.TheVariants as op
use Rattle.trace.specs.declared.traces.Trace.{Trace}

-- the numbers of an op lie in their ranges
abbrev pub IsFormedOp : List Section → TraceOp → Type 0
IsFormedOp sections (op.Page key order) = IsKey key × (order ≤ 10)
IsFormedOp sections (op.Kmalloc key size) = IsKey key × (1 ≤ size) × (size ≤ 4194304)
IsFormedOp sections (op.Free key) = IsKey key
IsFormedOp sections (op.Split key order first) = IsKey key × (order ≤ 9) × IsKey first
IsFormedOp sections (op.Swap one two) = IsKey one × IsKey two × (one ≢ two)
IsFormedOp sections (op.Trim key pages) = IsKey key × (1 ≤ pages) × (pages ≤ 1023)
IsFormedOp sections (op.Hook section index) = IsTag sections section index
IsFormedOp sections op.Unhook = Unit {0}
IsFormedOp sections (op.Enter section) = IsModule sections section
IsFormedOp sections (op.Leave section) = IsModule sections section
IsFormedOp sections (op.Unload section) = IsModule sections section

abbrev pub IsFormedOn : ℕ → List Section → OnOp → Type 0
IsFormedOn cpus sections on = (on.cpu < cpus) × IsFormedOp sections on.op

abbrev pub IsFormedItem : ℕ → List Section → Item → Type 0
IsFormedItem cpus sections (item.Round ops) = All (IsFormedOn cpus sections) ops
IsFormedItem cpus sections (item.Load line section) = IsModule sections section
IsFormedItem cpus sections item.Print = Unit {0}
IsFormedItem cpus sections item.Areas = Unit {0}

-- the line numbers of an item; those of `round`, `print` and `areas` aren't kept
abbrev pub numbers_in : Item → List ℕ
numbers_in (item.Round ops) = map (λ on. on.line) ops
numbers_in (item.Load line section) = line ∷ []
numbers_in item.Print = []
numbers_in item.Areas = []

-- the line numbers of a body
abbrev pub numbers_of : List Item → List ℕ
numbers_of items = flat_map numbers_in items

-- `print` and `areas`
abbrev pub is_printing : Item → Bool
is_printing item.Print = true
is_printing item.Areas = true
is_printing _ = false

-- how many items print
abbrev pub prints_of : List Item → ℕ
prints_of items = count_by is_printing items

-- A trace whose numbers lie in their ranges, whose sections have tags, whose lines name what is there and rise, and
-- which keeps the limits on lines, sections, tags and prints.
pub record IsFormedTrace (trace : Trace) : Type 0 where
  pub cpus : (1 ≤ trace.cpus) × (trace.cpus ≤ 64)
  pub area : trace.area ≤ 896
  pub frames : (1 ≤ trace.frames) × (trace.frames ≤ 1024)
  pub vectors : trace.vectors ≤ 64
  pub kernel : 0 < length trace.sections
  pub sections : AreSections trace.sections
  pub tags : AreTagged trace.sections
  pub items : All (IsFormedItem trace.cpus trace.sections) trace.body
  pub lines : AreLineNumbers (numbers_of trace.body)
  pub few_items : length trace.body ≤ 131072
  pub few_prints : prints_of trace.body ≤ 64
