-- A table with all that stands on it.
use Rattle.std.specs.Prelude.{ℕ, ◌≡◌, ◌<◌, ◌≤◌, ◌++◌, ⊤, All, Bool, true, Option, Some, None, List, [], Vec, length, slice_index}
use Rattle.std.specs.List.{flat_map}
use Rattle.std.specs.declared.alloc.Global.{Global}
use Rattle.tag_model.specs.declared.shape.Shape.{Shape}
use Rattle.tag_model.specs.declared.state.Held.{Held}
use Rattle.tag_model.specs.declared.state.Kind.TheVariants.{Bytes, Calls}
use Rattle.tag_model.specs.Index.{Slot}
use Rattle.tag_model.specs.Shape.{IsChecked}
use Rattle.tag_model.specs.WordState.{word_place}
use Rattle.tag_rule.specs.Made.{AreFresh, fresh_seats}
use Rattle.tag_rule.specs.Shown.{Board, CpuShown}
use Rattle.allocinfo.specs.Text.{header_text}
use Rattle.module_area.specs.declared.entry.Entry.{Entry}
use Rattle.tag_section.specs.Section.{section_at}
use Rattle.trace_play.specs.Machine.{slab_cells}
use Rattle.trace_play.specs.Printed.{some_rows_text}
use Rattle.round_keys.specs.Stored.{key_cells}
use Rattle.round_worker.specs.Parting.{AreKept}
use Rattle.round_worker.specs.Shown.{WorkerShown}
use Rattle.run_text.specs.Rows.{quiet_rows}
use Rattle.plant.specs.declared.left.Left.{Left}
use Rattle.plant.specs.declared.table.Tokens.{Tokens}

-- its shape, whether no run has begun, its CPUs, and what a run has left beside them
pub record PlantShown : Type 0 where
  pub shape : Shape
  pub fresh : Bool
  pub cpus : List CpuShown
  pub left : Option Left

-- as it was made
pub record IsNew (k : Shape) (plant : PlantShown) : Type 0 where
  pub board : Board
  pub shape : board.shape ≡ k
  pub is : plant ≡ record { shape = k; fresh = true; cpus = fresh_seats board; left = None }

-- the CPUs and these tokens are all of a fresh table
abbrev pub IsWhole : Shape → Vec CpuShown Global → Option Tokens → Type 0
IsWhole k cpus None = ⊤
IsWhole k cpus (Some t) = AreFresh k (record { cpus = cpus; pages = t.pages; objects = t.objects; list = t.list; loads = t.loads })

-- what a run has left is of the table of the CPUs, which has room for the sections; no range is the kernel's
pub record IsLeft (k : Shape) (cpus : List CpuShown) (left : Left) : Type 0 where
  pub shape : left.locked.board.shape ≡ k
  pub cpus_are : All (λ (c : CpuShown). c.board ≡ left.locked.board) cpus
  pub workers_are : All (λ (w : WorkerShown). w.board ≡ left.locked.board) left.workers.items
  pub keys_are : AreKept left.locked.board left.keys
  pub kernel : length (section_at left.locked.sections 0).tags ≤ k.tags
  pub modules : All (λ (e : Entry). 0 < e.section) left.locked.area.entries

abbrev pub IsLeftIn : Shape → List CpuShown → Option Left → Type 0
IsLeftIn k cpus None = ⊤
IsLeftIn k cpus (Some left) = IsLeft k cpus left

pub record IsPlant (k : Shape) (cpus : Vec CpuShown Global) (fresh : Option Tokens) (left : Option Left) : Type 0 where
  pub checked : IsChecked k
  pub whole : IsWhole k cpus fresh
  pub left_in : IsLeftIn k cpus.items left

-- ---- references by cell

abbrev pub slab_cells_of : List WorkerShown → List (Slot × Held)
slab_cells_of workers = flat_map (λ (w : WorkerShown). slab_cells w.seat.node) workers

-- those of the keys, and those of the slabs
abbrev pub cells_in : Left → List (Slot × Held)
cells_in left = key_cells left.keys ++ slab_cells_of left.workers.items

abbrev pub cells_with : Option Left → List (Slot × Held)
cells_with None = []
cells_with (Some left) = cells_in left

abbrev pub cells_of : PlantShown → List (Slot × Held)
cells_of plant = cells_with plant.left

-- ---- what is printed

-- the rows of the tags by the words of the CPUs; no tag is known before a run
abbrev pub text_with : Bool → Option ℕ → List CpuShown → Option Left → List ℕ
text_with kept top cpus None = header_text
text_with kept top cpus (Some left) = some_rows_text top left.locked.sections (quiet_rows kept left.locked cpus)

abbrev pub quiet_text : Bool → Option ℕ → PlantShown → List ℕ
quiet_text kept top plant = text_with kept top plant.cpus plant.left

-- ---- words

-- the bytes and the calls of a tag
abbrev pub tag_words : ℕ → CpuShown → ℕ × ℕ
tag_words tag cpu = (slice_index cpu.part.words (word_place Bytes tag), slice_index cpu.part.words (word_place Calls tag))
