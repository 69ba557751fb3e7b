-- The word state is a list of parts. Whatever is said of it is said by sums over its parts, so that neither their order nor who holds which part matters.
use Rattle.std.specs.Prelude.{◌≡◌, ℕ, ◌+◌, ◌*◌, ◌==◌, ◌&&◌, ◌||◌, not, nat_lt, nat_le, Bool, true, if◌then◌else◌, Option, Some, None, List, length, sum_by, count_by, slice_index}
use Rattle.std.specs.List.{list_any, list_all}
use Rattle.tag_model.specs.declared.shape.Shape.{Shape}
use Rattle.tag_model.specs.declared.state.Tag.{Tag}
use Rattle.tag_model.specs.declared.state.Hand.{Hand}
use Rattle.tag_model.specs.declared.state.Kind.{Kind}
use Rattle.tag_model.specs.declared.state.Run.{Run}
use Rattle.tag_model.specs.declared.state.Note.{Note}
use Rattle.tag_model.specs.declared.state.Record.{Record}
use Rattle.tag_model.specs.declared.state.CpuPart.{CpuPart}
use Rattle.tag_model.specs.declared.state.Part.{Part}
use Rattle.tag_model.specs.declared.state.Part.TheVariants.{Cpu, Place, Modules, NextId}
use Rattle.tag_model.specs.Reference.{held_counts, hand_counts, held_counts_of, hand_counts_of, held_fits, hand_fits, amount}

-- a yes or no as a number that sums can count
abbrev pub one_if : Bool → ℕ
one_if b = if b then 1 else 0

-- each part passes the test
abbrev pub Every : (Part → Bool) → List Part → Type 0
Every test parts = sum_by (λ p. one_if (not (test p))) parts ≡ 0

-- where a CPU keeps its word of a kind for a tag
abbrev pub word_place : Kind → ℕ → ℕ
word_place kind t = 2 * t + amount kind 0 1

-- a part's word of a kind for a tag
abbrev pub word_of : Kind → ℕ → Part → ℕ
word_of kind t (Cpu c) = slice_index c.words (word_place kind t)
word_of kind t (Place number held) = 0
word_of kind t (Modules l) = 0
word_of kind t (NextId id) = 0

-- the words of the CPUs from this one on
abbrev pub word_from : ℕ → Kind → ℕ → Part → ℕ
word_from cpu kind t (Cpu c) = if nat_le cpu c.number then slice_index c.words (word_place kind t) else 0
word_from cpu kind t (Place number held) = 0
word_from cpu kind t (Modules l) = 0
word_from cpu kind t (NextId id) = 0

-- Counted: what the part's places and hand count under a tag number
abbrev pub counted : Kind → ℕ → Part → ℕ
counted kind t (Cpu c) = hand_counts kind t c.hand
counted kind t (Place number held) = held_counts kind t held
counted kind t (Modules l) = 0
counted kind t (NextId id) = 0

-- the same under a tag of a module
abbrev pub counted_of : Kind → Tag → Part → ℕ
counted_of kind named (Cpu c) = hand_counts_of kind named c.hand
counted_of kind named (Place number held) = held_counts_of kind named held
counted_of kind named (Modules l) = 0
counted_of kind named (NextId id) = 0

-- ---- which part it is

abbrev pub is_cpu : ℕ → Part → ℕ
is_cpu n (Cpu c) = one_if (c.number == n)
is_cpu n (Place number held) = 0
is_cpu n (Modules l) = 0
is_cpu n (NextId id) = 0

abbrev pub is_place : Part → ℕ
is_place (Cpu c) = 0
is_place (Place number held) = 1
is_place (Modules l) = 0
is_place (NextId id) = 0

abbrev pub is_place_at : ℕ → Part → ℕ
is_place_at n (Cpu c) = 0
is_place_at n (Place number held) = one_if (number == n)
is_place_at n (Modules l) = 0
is_place_at n (NextId id) = 0

abbrev pub is_list : Part → ℕ
is_list (Cpu c) = 0
is_list (Place number held) = 0
is_list (Modules l) = 1
is_list (NextId id) = 0

abbrev pub is_pass : Part → ℕ
is_pass (Cpu c) = 0
is_pass (Place number held) = 0
is_pass (Modules l) = 0
is_pass (NextId id) = 1

-- ---- the module list

-- the range, from start on, has the tag
abbrev pub in_range : ℕ → ℕ → ℕ → Bool
in_range start length t = nat_le start t && nat_lt t (start + length)

-- how many records a part has that pass a test
abbrev pub records_with : (Record → Bool) → Part → ℕ
records_with test (Cpu c) = 0
records_with test (Place number held) = 0
records_with test (Modules l) = count_by test l.records
records_with test (NextId id) = 0

-- how many runs, those on their way among them
abbrev pub runs_with : (Run → Bool) → Part → ℕ
runs_with test (Cpu c) = count_by test c.runs
runs_with test (Place number held) = 0
runs_with test (Modules l) = count_by test l.away
runs_with test (NextId id) = 0

abbrev pub notes_with : (Note → Bool) → Part → ℕ
notes_with test (Cpu c) = count_by test c.notes
notes_with test (Place number held) = 0
notes_with test (Modules l) = 0
notes_with test (NextId id) = 0

-- the users that the record of an id has, if it is there
abbrev pub users_of : ℕ → Part → ℕ
users_of id (Cpu c) = 0
users_of id (Place number held) = 0
users_of id (Modules l) = sum_by (λ (r : Record). if r.id == id then r.users else 0) l.records
users_of id (NextId next) = 0

-- the id that the next record gets
abbrev pub next_id : Part → ℕ
next_id (Cpu c) = 0
next_id (Place number held) = 0
next_id (Modules l) = 0
next_id (NextId id) = id

-- ---- what is in bounds by itself

abbrev pub record_fits : Shape → Record → Bool
record_fits k r = nat_lt 0 r.id && nat_lt 0 r.length && nat_le k.kernel_tags r.start && nat_le (r.start + r.length) k.tags

-- an allocation under a tag of a module has a run on it whose range has the tag
abbrev pub hand_may_open : Option Hand → List Run → Bool
hand_may_open None runs = true
hand_may_open (Some h) runs = not h.opening || (h.tag.module == 0) || list_any (λ (r : Run). (r.id == h.tag.module) && in_range r.start r.length h.tag.number) runs

-- a CPU is one of the shape, has its words, a hand in its bounds, and the run that its hand needs
abbrev pub cpu_fits : Shape → CpuPart → Bool
cpu_fits k c = nat_lt c.number k.cpus && (length c.words == 2 * k.tags) && hand_fits c.hand && hand_may_open c.hand c.runs

abbrev pub part_fits : Shape → Part → Bool
part_fits k (Cpu c) = cpu_fits k c
part_fits k (Place number held) = held_fits held
part_fits k (Modules l) = list_all (record_fits k) l.records
part_fits k (NextId id) = nat_lt 0 id
