-- The places of a walk, and their order.
use Rattle.std.specs.Prelude.{ℕ, ◌+◌, ◌==◌, ◌&&◌, ◌||◌, Bool, true, false, not, nat_lt, if◌then◌else◌, List, [], ◌∷◌, ◌++◌, length, map, filter, Option, None, Some, All, Contains, IsTrue}
use Rattle.std.specs.List.{find, flat_map, range_with_len}
use Rattle.module_area.specs.Entries.{is_dead}
use Rattle.module_area.specs.declared.entry.Entry.{Entry}
use Rattle.module_area.specs.declared.entry.State.{State}
use Rattle.module_area.specs.declared.entry.State.TheVariants.{Loaded, Dead}
use Rattle.tag_section.specs.Section.{Section, section_at}
use Rattle.reclaim.specs.State.{LockedShown}
use Rattle.tag_iter.specs.declared.iter.TagIter.{TagIter}
use Rattle.tag_iter.specs.declared.place.TagPlace.{TagPlace}
use Rattle.tag_iter.specs.declared.range.TagRange.{TagRange}

-- ---- the places

-- the place of an index in a range
abbrev pub place_at : TagRange → ℕ → TagPlace
place_at range index = record { «module» = range.«module»; section = range.section; index = index; number = range.start + index; kept = range.kept }

-- the places of a range, by rising index
abbrev pub places_in : TagRange → List TagPlace
places_in range = map (place_at range) (range_with_len 0 range.size)

-- the range of the kernel's section, under module 0
abbrev pub kernel_range : List Section → TagRange
kernel_range sections = record { «module» = 0; section = 0; start = 0; size = length (section_at sections 0).tags; kept = false }

-- the range of a module
abbrev pub range_of : Entry → TagRange
range_of entry = record { «module» = entry.id; section = entry.section; start = entry.start; size = entry.length; kept = is_dead entry.state }

-- whether the entry has the state
abbrev pub is_in : State → Entry → Bool
is_in Loaded entry = not (is_dead entry.state)
is_in Dead entry = is_dead entry.state

-- the ranges of the entries of a state
abbrev pub ranges_in : State → List Entry → List TagRange
ranges_in state entries = map range_of (filter (is_in state) entries)

-- the ranges of a walk: the kernel's, those of the loaded modules, and where all are walked those of the dead ones
abbrev pub ranges_of : Bool → List Section → List Entry → List TagRange
ranges_of all sections entries = kernel_range sections ∷ ranges_in Loaded entries ++ (if all then ranges_in Dead entries else [])

-- the places of a walk over these sections and entries
abbrev pub places_among : Bool → List Section → List Entry → List TagPlace
places_among all sections entries = flat_map places_in (ranges_of all sections entries)

-- the places of a walk over a module list
abbrev pub places_of : Bool → LockedShown → List TagPlace
places_of all l = places_among all l.sections l.area.entries

-- ---- their order

-- the lesser number comes first; where both are equal the rest decides
abbrev pub less_or : ℕ → ℕ → Bool → Bool
less_or one other rest = nat_lt one other || (one == other && rest)

-- not kept comes before kept
abbrev pub rank_of : Bool → ℕ
rank_of kept = if kept then 1 else 0

-- whether a place comes before another: by whether it is kept, then by the module's id, then by the index
abbrev pub is_before : TagPlace → TagPlace → Bool
is_before one other = less_or (rank_of one.kept) (rank_of other.kept) (less_or one.«module» other.«module» (nat_lt one.index other.index))

abbrev pub IsBefore : TagPlace → TagPlace → Type 0
IsBefore one other = IsTrue (is_before one other)

-- whether the place is above the last one; before the first step each is
abbrev pub is_above : Option TagPlace → TagPlace → Bool
is_above None place = true
is_above (Some last) place = is_before last place

abbrev pub IsAbove : Option TagPlace → TagPlace → Type 0
IsAbove last place = IsTrue (is_above last place)

-- ---- the next place

-- the first place above the last one among those of the entries of a state
abbrev pub found_in : Option TagPlace → State → List Entry → Option TagPlace
found_in last state entries = find (is_above last) (flat_map places_in (ranges_in state entries))

-- none of the places is above the last one
abbrev pub NoneAbove : Option TagPlace → List TagPlace → Type 0
NoneAbove last places = All (λ place. ¬ IsAbove last place) places

-- the least of the places above the last one
pub record IsLeastAbove (last : Option TagPlace) (places : List TagPlace) (place : TagPlace) : Type 0 where
  pub one_of : Contains places place
  pub above : IsAbove last place
  pub least : All (λ other. IsAbove last other → ¬ IsBefore other place) places

-- an iterator that gave nothing yet
abbrev pub fresh_iter : Bool → TagIter
fresh_iter all = record { all = all; last = None }

-- the place that an iterator gives next
abbrev pub next_place : TagIter → LockedShown → Option TagPlace
next_place iter l = find (is_above iter.last) (places_of iter.all l)

-- the iterator after it gave a place, or none
abbrev pub after_place : TagIter → Option TagPlace → TagIter
after_place iter None = iter
after_place iter (Some place) = record iter { last = Some place }
