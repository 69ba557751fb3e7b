-- Entries of modules, and the tags in their ranges.
use Rattle.std.specs.Prelude.{ℕ, ◌≡◌, ◌+◌, ◌-◌, ◌<◌, ◌≤◌, ◌==◌, Bool, true, false, ◌&&◌, not, nat_le, nat_lt, if◌then◌else◌, List, Option, Any, map, filter}
use Rattle.std.specs.List.{find}
use Rattle.std.specs.Option.{option_map}
use Rattle.module_area.specs.declared.entry.Entry.{Entry}
use Rattle.module_area.specs.declared.entry.State.{State}
use Rattle.module_area.specs.declared.entry.State.TheVariants.{Loaded, Dead}

-- the entry's range has the tag
abbrev pub Covers : Entry → ℕ → Type 0
Covers entry tag = (entry.start ≤ tag) × (tag < entry.start + entry.length)

-- the range of an entry, loaded or dead, has the tag
abbrev pub IsCovered : List Entry → ℕ → Type 0
IsCovered entries tag = Any (λ entry. Covers entry tag) entries

-- none of the `length` tags from `start` on is covered
abbrev pub IsFree : List Entry → ℕ → ℕ → Type 0
IsFree entries start length = (tag : ℕ) → start ≤ tag → tag < start + length → ¬ IsCovered entries tag

-- one of the `length` tags from `start` on is covered
abbrev pub IsMet : List Entry → ℕ → ℕ → Type 0
IsMet entries start length = (tag : ℕ) × (start ≤ tag) × (tag < start + length) × IsCovered entries tag

-- no tag is in the ranges of both
abbrev pub AreApart : Entry → Entry → Type 0
AreApart one other = (tag : ℕ) → Covers one tag → ¬ Covers other tag

-- whether the entry's range has the tag
abbrev pub covers : Entry → ℕ → Bool
covers entry tag = nat_le entry.start tag && nat_lt tag (entry.start + entry.length)

-- whether the entry's range has one of the `length` tags from `start` on
abbrev pub meets : Entry → ℕ → ℕ → Bool
meets entry start length = nat_lt entry.start (start + length) && nat_lt start (entry.start + entry.length)

-- whether an entry of the state and the section is the section's loaded module
abbrev pub is_loaded_at : State → ℕ → ℕ → Bool
is_loaded_at Loaded other section = other == section
is_loaded_at Dead other section = false

-- whether the entry is the section's loaded module
abbrev pub is_loaded_as : ℕ → Entry → Bool
is_loaded_as section entry = is_loaded_at entry.state entry.section section

-- the entry is the section's loaded module
abbrev pub IsLoadedAs : ℕ → Entry → Type 0
IsLoadedAs section entry = (entry.state ≡ Loaded) × (entry.section ≡ section)

-- the entry of the id
abbrev pub entry_of : List Entry → ℕ → Option Entry
entry_of entries id = find (λ entry. entry.id == id) entries

-- the id of the entry that covers the tag
abbrev pub id_covering : List Entry → ℕ → Option ℕ
id_covering entries tag = option_map (λ entry. entry.id) (find (λ entry. covers entry tag) entries)

-- the id of the section's loaded module
abbrev pub id_loaded : List Entry → ℕ → Option ℕ
id_loaded entries section = option_map (λ entry. entry.id) (find (is_loaded_as section) entries)

-- the entries, with the one of the id changed
abbrev pub with_entry : ℕ → (Entry → Entry) → List Entry → List Entry
with_entry id change entries = map (λ entry. if entry.id == id then change entry else entry) entries

-- the entries without the one of the id
abbrev pub without_entry : ℕ → List Entry → List Entry
without_entry id entries = filter (λ entry. not (entry.id == id)) entries

-- the entry with one more user
abbrev pub entered : Entry → Entry
entered entry = record entry { users = entry.users + 1 }

-- the entry with one user less
abbrev pub left : Entry → Entry
left entry = record entry { users = entry.users - 1 }

-- the entry, unloaded, with its range kept
abbrev pub kept : Entry → Entry
kept entry = record entry { state = Dead }

-- whether an entry of the state is unloaded, with its range kept
abbrev pub is_dead : State → Bool
is_dead Loaded = false
is_dead Dead = true
