-- Where each word and each cell of a machine stands in its one table of words. Word 0 is nobody's.
use Rattle.std.specs.Prelude.{ℕ, ◌+◌, ◌*◌, ◌<◌}
use Rattle.tag_model.specs.declared.shape.Shape.{Shape}
use Rattle.tag_model.specs.declared.state.Kind.{Kind}
use Rattle.tag_model.specs.WordState.{word_place}

-- a CPU's words are one span: for tag t, bytes at 2 t and calls at 2 t + 1
abbrev pub first_word : Shape → ℕ → ℕ
first_word k cpu = 1 + cpu * (2 * k.tags)

abbrev pub word_index : Shape → ℕ → Kind → ℕ → ℕ
word_index k cpu kind t = first_word k cpu + word_place kind t

-- behind the words of all CPUs stand the cells of their page frames, and behind these the cells of their vectors
abbrev pub first_cell : Shape → ℕ
first_cell k = first_word k k.cpus

abbrev pub page_index : Shape → ℕ → ℕ → ℕ
page_index k cpu frame = first_cell k + cpu * k.frames + frame

abbrev pub first_object : Shape → ℕ
first_object k = first_cell k + k.cpus * k.frames

abbrev pub object_index : Shape → ℕ → ℕ → ℕ → ℕ
object_index k cpu vector place = first_object k + 64 * (cpu * k.vectors + vector) + place

-- how many words the table has
abbrev pub word_count : Shape → ℕ
word_count k = 1 + 2 * k.cpus * k.tags + k.cpus * k.frames + k.cpus * k.vectors * 64

-- the shape of the program's machine
abbrev pub program_shape : Shape
program_shape = record { cpus = 64; tags = 1024; kernel_tags = 128; frames = 1024; vectors = 64 }

-- ---- everything that has a place in the table

pub data Slot : Type 0 where
  Word : (cpu : ℕ) (kind : Kind) (tag : ℕ) → Slot
  Page : (cpu frame : ℕ) → Slot
  Object : (cpu vector place : ℕ) → Slot

abbrev pub index_of : Shape → Slot → ℕ
index_of k (Word cpu kind t) = word_index k cpu kind t
index_of k (Page cpu frame) = page_index k cpu frame
index_of k (Object cpu vector place) = object_index k cpu vector place

-- its numbers are in their ranges
abbrev pub IsSlot : Shape → Slot → Type 0
IsSlot k (Word cpu kind t) = (cpu < k.cpus) × (t < k.tags)
IsSlot k (Page cpu frame) = (cpu < k.cpus) × (frame < k.frames)
IsSlot k (Object cpu vector place) = (cpu < k.cpus) × (vector < k.vectors) × (place < 64)
