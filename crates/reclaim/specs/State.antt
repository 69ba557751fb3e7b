-- The module list with its book and its sections, as one value.
use Rattle.std.specs.Prelude.{◌≡◌, ℕ, ◌+◌, ◌<◌, ◌≤◌, Bool, true, false, IsTrue, List, [], length, map, All}
use Rattle.tag_model.specs.declared.state.ListPart.{ListPart}
use Rattle.tag_model.specs.declared.state.Stop.{Stop}
use Rattle.tag_model.specs.declared.state.Sweep.{Sweep}
use Rattle.tag_model.specs.declared.state.Sweep.TheVariants as sweep
use Rattle.tag_model.specs.Shape.{IsChecked}
use Rattle.tag_rule.specs.Shown.{Board}
use Rattle.module_area.specs.declared.entry.Entry.{Entry}
use Rattle.module_area.specs.Entries.{entered, left, with_entry}
use Rattle.module_area.specs.Area.{Area, IsBook}
use Rattle.core_list.specs.ListState.{record_of}
use Rattle.tag_section.specs.Section.{Section, section_at}

-- which table, the book, the sections, the last sweep with its stops, and how many words sweeps have read
pub record LockedShown : Type 0 where
  pub board : Board
  pub area : Area
  pub sections : List Section
  pub sweep : Sweep
  pub stops : List Stop
  pub reads : ℕ

-- its share of the word state: the book's entries are the records, and no run is on its way
abbrev pub part_of : LockedShown → ListPart
part_of l = record { records = map record_of l.area.entries; sweep = l.sweep; stops = l.stops; reads = l.reads; away = [] }

-- the entry's section stands in the sections, with the entry's length
abbrev pub IsNamed : List Section → Entry → Type 0
IsNamed sections e = (e.section < length sections) × (length (section_at sections e.section).tags ≡ e.length)

-- the sweep isn't reading
abbrev pub is_still : Sweep → Bool
is_still sweep.None = true
is_still (sweep.Done left) = true
is_still (sweep.Reading left reader) = false

-- what holds of each
pub record IsLocked (l : LockedShown) : Type 0 where
  pub checked : IsChecked l.board.shape
  pub book : IsBook l.area
  pub first : l.area.first ≡ l.board.shape.kernel_tags
  pub within : l.area.first + l.area.tags ≤ l.board.shape.tags
  pub named : All (IsNamed l.sections) l.area.entries
  pub still : IsTrue (is_still l.sweep)

-- ---- a CPU comes and goes

-- the entry of the id changed
abbrev pub with_changed : ℕ → (Entry → Entry) → LockedShown → LockedShown
with_changed id change l = record l { area = record l.area { entries = with_entry id change l.area.entries } }

-- a CPU comes into the module
abbrev pub entered_locked : ℕ → LockedShown → LockedShown
entered_locked id l = with_changed id entered l

-- a CPU goes out of the module
abbrev pub left_locked : ℕ → LockedShown → LockedShown
left_locked id l = with_changed id left l
