-- The module area and its entries.
use Rattle.std.specs.Prelude.{ℕ, ◌≡◌, ◌≢◌, ◌+◌, ◌<◌, ◌≤◌, ◌&&◌, Bool, not, nat_le, List, length, All, AllPairs, Option}
use Rattle.std.specs.List.{find, list_any, range_with_len}
use Rattle.module_area.specs.declared.entry.Entry.{Entry}
use Rattle.module_area.specs.declared.entry.State.TheVariants.{Loaded}
use Rattle.module_area.specs.Entries.{IsFree, IsMet, AreApart, meets}

-- a book: its entries, the area's first tag, and how many tags the area has
pub record Area : Type 0 where
  pub entries : List Entry
  pub first : ℕ
  pub tags : ℕ

-- the `size` tags from `start` on lie in the area
abbrev pub LiesIn : Area → ℕ → ℕ → Type 0
LiesIn area start size = (area.first ≤ start) × (start + size ≤ area.first + area.tags)

-- the least start in the area whose `size` tags lie in it and are covered by no entry, loaded or dead
pub record IsLeastStart (area : Area) (size start : ℕ) : Type 0 where
  pub lies : LiesIn area start size
  pub free : IsFree area.entries start size
  pub least : (other : ℕ) → other < start → LiesIn area other size → IsMet area.entries other size

-- there is no start in the area whose `size` tags lie in it and are covered by no entry
abbrev pub HasNoRoom : Area → ℕ → Type 0
HasNoRoom area size = (start : ℕ) → LiesIn area start size → IsMet area.entries start size

-- the most entries
abbrev pub entry_limit : ℕ
entry_limit = 64

-- there are as many entries as may be
abbrev pub IsFull : Area → Type 0
IsFull area = length area.entries ≡ entry_limit

-- two loaded entries are of different sections
abbrev pub DifferIfLoaded : Entry → Entry → Type 0
DifferIfLoaded one other = one.state ≡ Loaded → other.state ≡ Loaded → one.section ≢ other.section

-- what holds of every book
pub record IsBook (area : Area) : Type 0 where
  pub few : length area.entries ≤ entry_limit
  pub above_zero : All (λ entry. 0 < entry.id) area.entries
  pub rising : AllPairs (λ one other. one.id < other.id) area.entries
  pub some_tags : All (λ entry. 1 ≤ entry.length) area.entries
  pub in_area : All (λ entry. LiesIn area entry.start entry.length) area.entries
  pub apart : AllPairs AreApart area.entries
  pub loaded_once : AllPairs DifferIfLoaded area.entries
  pub small : area.first + area.tags ≤ 1024

-- whether the `size` tags from the start on lie in the area, and no entry covers one of them
abbrev pub is_free_at : Area → ℕ → ℕ → Bool
is_free_at area size start = nat_le (start + size) (area.first + area.tags) && not (list_any (λ e. meets e start size) area.entries)

-- the least such start, if there is one
abbrev pub least_start : Area → ℕ → Option ℕ
least_start area size = find (is_free_at area size) (range_with_len area.first (area.tags + 1))
