-- What a token keeps of its seat: its parts, and what bounds them.
use Rattle.std.specs.Prelude.{◌≡◌, ℕ, ◌+◌, ◌-◌, ◌*◌, ◌<◌, ◌≤◌, ◌==◌, nat_le, nat_lt, ◌&&◌, Bool, true, IsTrue, Option, Some, None, List, [], ◌∷◌, ◌++◌, map, length, count_by}
use Rattle.std.specs.List.{list_all, list_any, range_with_len}
use Rattle.tag_model.specs.declared.shape.Shape.{Shape}
use Rattle.tag_model.specs.declared.state.CpuPart.{CpuPart}
use Rattle.tag_model.specs.declared.state.Hand.{Hand}
use Rattle.tag_model.specs.declared.state.Held.{Held}
use Rattle.tag_model.specs.declared.state.Held.TheVariants as held
use Rattle.tag_model.specs.declared.state.ListPart.{ListPart}
use Rattle.tag_model.specs.declared.state.Part.{Part}
use Rattle.tag_model.specs.declared.state.Part.TheVariants.{Cpu, Place, Modules, NextId}
use Rattle.tag_model.specs.declared.state.Record.{Record}
use Rattle.tag_model.specs.declared.state.Run.{Run}
use Rattle.tag_model.specs.Index.{first_cell, word_count}
use Rattle.tag_model.specs.Reference.{hand_fits, held_fits}
use Rattle.tag_model.specs.Laws.{ids_of, is_loaded_as, rises_from, sweep_fits}
use Rattle.tag_model.specs.Shape.{IsChecked}
use Rattle.tag_model.specs.WordState.{in_range, record_fits}
use Rattle.module_list.specs.Listing.{record_limit}
use Rattle.tag_rule.specs.Fresh.{fresh_list, places}
use Rattle.tag_rule.specs.Shown.{CpuShown, CellShown, ListShown}

-- ---- a CPU

abbrev pub no_cpu : CpuPart
no_cpu = record { number = 0; words = []; hand = None; runs = []; notes = [] }

-- the CPU that a seat with one has
abbrev pub cpu_in : List Part → CpuPart
cpu_in [] = no_cpu
cpu_in (Cpu c ∷ parts) = c
cpu_in (Place n h ∷ parts) = no_cpu
cpu_in (Modules l ∷ parts) = no_cpu
cpu_in (NextId id ∷ parts) = no_cpu

-- what is in hand has a tag of the shape
abbrev pub hand_in_tags : Shape → Option Hand → Bool
hand_in_tags k None = true
hand_in_tags k (Some h) = nat_lt h.tag.number k.tags

abbrev pub run_in_tags : Shape → Run → Bool
run_in_tags k r = nat_le (r.start + r.length) k.tags

abbrev pub ids_in : List Run → List ℕ
ids_in runs = map (λ (r : Run). r.id) runs

-- a CPU of the shape, with its words, a hand in its bounds and runs on ranges of the shape
pub record CpuHolds (k : Shape) (c : CpuPart) : Type 0 where
  pub number : c.number < k.cpus
  pub long : length c.words ≡ 2 * k.tags
  pub hand : IsTrue (hand_fits c.hand)
  pub in_tags : IsTrue (hand_in_tags k c.hand)
  pub runs : IsTrue (list_all (run_in_tags k) c.runs)

-- what the token keeps at run time is what its part says
pub record CpuKept (number : ℕ) (hand : Option Hand) (ids : List ℕ) (c : CpuPart) : Type 0 where
  pub number_is : number ≡ c.number
  pub hand_is : hand ≡ c.hand
  pub ids_are : ids ≡ ids_in c.runs
  pub few : length ids ≤ 64

-- ---- cells

-- the cell that a seat of cells begins with, and those behind it, which hold nothing
abbrev pub cell_parts : ℕ → ℕ → Held → List Part
cell_parts first count h = Place first h ∷ places (range_with_len (first + 1) (count - 1))

abbrev pub held_in_tags : Shape → Held → Bool
held_in_tags k held.None = true
held_in_tags k held.Empty = true
held_in_tags k (held.Counted tag size) = nat_lt tag.number k.tags

-- so many cells of the shape's table, the first of which holds a reference in its bounds
pub record CellHolds (k : Shape) (first count : ℕ) (h : Held) : Type 0 where
  pub some : 0 < count
  pub low : first_cell k ≤ first
  pub high : first + count ≤ word_count k
  pub held : IsTrue (held_fits h)
  pub in_tags : IsTrue (held_in_tags k h)

abbrev pub cell_in : Part → List ℕ
cell_in (Cpu c) = []
cell_in (Place n h) = n ∷ []
cell_in (Modules l) = []
cell_in (NextId id) = []

-- the cells among parts
abbrev pub cells_in : List Part → List ℕ
cells_in [] = []
cells_in (p ∷ parts) = cell_in p ++ cells_in parts

-- cells of the shape's table, none of them twice
pub record CellsHold (k : Shape) (cells : List ℕ) : Type 0 where
  pub once : (n : ℕ) → count_by (λ cell. cell == n) cells ≤ 1
  pub within : IsTrue (list_all (λ n. nat_le (first_cell k) n && nat_lt n (word_count k)) cells)

-- ---- the list and the pass

abbrev pub list_in : List Part → ListPart
list_in [] = fresh_list
list_in (Cpu c ∷ parts) = fresh_list
list_in (Place n h ∷ parts) = fresh_list
list_in (Modules l ∷ parts) = l
list_in (NextId id ∷ parts) = fresh_list

-- what a safe state tells of its list alone: the records stand by rising id, in the area and apart; the sweep is in its bounds; a record's users are at most the CPUs and the runs on their way; a run on its way has its loaded record, with a user
pub record ListHolds (k : Shape) (l : ListPart) : Type 0 where
  pub rises : IsTrue (rises_from 0 (ids_of l.records))
  pub in_area : IsTrue (list_all (record_fits k) l.records)
  pub apart : (t : ℕ) → count_by (λ (r : Record). in_range r.start r.length t) l.records ≤ 1
  pub sweep : IsTrue (sweep_fits k l.sweep l.records)
  pub users : IsTrue (list_all (λ (r : Record). nat_le r.users (k.cpus + count_by (λ (run : Run). run.id == r.id) l.away)) l.records)
  pub away : (ahead : List Run) (run : Run) (behind : List Run) → l.away ≡ ahead ++ run ∷ behind → IsTrue (list_any (λ (r : Record). is_loaded_as run r && nat_lt 0 r.users) l.records)

-- ---- what every token meets, said of what it shows

pub record IsCpuShown (cpu : CpuShown) : Type 0 where
  pub checked : IsChecked cpu.board.shape
  pub holds : CpuHolds cpu.board.shape cpu.part

pub record IsCellShown (cell : CellShown) : Type 0 where
  pub holds : CellHolds cell.board.shape cell.first cell.count cell.held

pub record IsListShown (list : ListShown) : Type 0 where
  pub checked : IsChecked list.board.shape
  pub few : length list.part.records ≤ record_limit
  pub holds : ListHolds list.board.shape list.part
