-- What an unload and a cleaning leave: a dead module stays exactly where the sweep that the call began has a stop of it.
use Rattle.std.specs.Prelude.{◌≡◌, ◌≢◌, ℕ, ◌+◌, ◌*◌, ◌<◌, ◌≤◌, ◌||◌, not, Bool, IsTrue, Some, IsSomeAnd, All, if◌then◌else◌, List, [], ◌∷◌, filter, length, sum_by}
use Rattle.std.specs.List.{list_any}
use Rattle.tag_model.specs.declared.state.Stop.{Stop}
use Rattle.tag_model.specs.declared.state.Sweep.TheVariants as sweep
use Rattle.tag_model.specs.StepRules.{without_id}
use Rattle.tag_model.specs.Sweeping.{are_above_zero, has_stop, ids_left}
use Rattle.module_list.specs.Listing.{releasable}
use Rattle.module_area.specs.declared.entry.Entry.{Entry}
use Rattle.module_area.specs.Area.{Area}
use Rattle.module_area.specs.declared.entry.State.TheVariants.{Dead}
use Rattle.module_area.specs.Entries.{Covers, entry_of, is_dead, kept, with_entry, without_entry}
use Rattle.reclaim.specs.declared.answers.Reclaim.{Reclaim}
use Rattle.reclaim.specs.declared.answers.Reclaim.TheVariants.{Released, Kept}
use Rattle.reclaim.specs.State.{LockedShown}

-- the book with these entries
abbrev pub with_entries : List Entry → LockedShown → Area
with_entries entries l = record l.area { entries = entries }

-- ---- releases

-- a module on the list of a sweep that is done is released
abbrev pub released : ℕ → LockedShown → LockedShown
released id l = record l { area = with_entries (without_entry id l.area.entries) l; sweep = sweep.Done (without_id id (ids_left l.sweep)) }

-- so many dead modules, each the first on the list of a sweep that is done, are released one after another
pub data Releases (old : LockedShown) : ℕ → LockedShown → Type 0 where
  no_release : Releases old 0 old
  then_release : {count : ℕ} {mid : LockedShown} (id : ℕ) → Releases old count mid → releasable mid.sweep ≡ Some id → IsSomeAnd (entry_of mid.area.entries id) (λ e. e.state ≡ Dead) → Releases old (count + 1) (released id mid)

-- ---- a cleaning

-- the entry is that of a loaded module, or of a dead one with a stop
abbrev pub is_kept : List Stop → Entry → Bool
is_kept stops e = not (is_dead e.state) || has_stop e.id stops

-- the tags of the dead modules
abbrev pub dead_tags : List Entry → ℕ
dead_tags entries = sum_by (λ (e : Entry). if is_dead e.state then e.length else 0) entries

-- the stop is of an entry, and tells a tag of its range
abbrev pub IsStopIn : List Entry → Stop → Type 0
IsStopIn entries s = IsSomeAnd (entry_of entries s.id) (λ e. Covers e s.tag)

-- one sweep over all dead modules; those with no stop are released, and they are as many as it says
pub record Cleaned (old new : LockedShown) (count : ℕ) : Type 0 where
  pub board : new.board ≡ old.board
  pub sections : new.sections ≡ old.sections
  pub area : new.area ≡ with_entries (filter (is_kept new.stops) old.area.entries) old
  pub fewer : count + length new.area.entries ≡ length old.area.entries
  pub sums : IsTrue (are_above_zero new.stops)
  pub within : All (IsStopIn old.area.entries) new.stops
  pub most : new.reads ≤ old.reads + 2 * old.board.shape.cpus * dead_tags old.area.entries
  pub some : IsTrue (list_any (λ (e : Entry). is_dead e.state) old.area.entries) → old.reads < new.reads

-- ---- an unload

-- the module of the id is gone; or it is dead, and the one stop says of which tag, and of which kind, the words' sum isn't 0
abbrev pub Ends : ℕ → LockedShown → LockedShown → Reclaim → Type 0
Ends id old new Released = (new.area ≡ with_entries (without_entry id old.area.entries) old) × (new.stops ≡ [])
Ends id old new (Kept tag kind sum) =
    (new.area ≡ with_entries (with_entry id kept old.area.entries) old) × (new.stops ≡ record { id = id; tag = tag; kind = kind; sum = sum } ∷ []) × (sum ≢ 0)

-- the tag that is told is one of the entry's range
abbrev pub TellsOf : Entry → Reclaim → Type 0
TellsOf entry Released = Unit {0}
TellsOf entry (Kept tag kind sum) = Covers entry tag

-- one sweep over the module of the entry, whose words it reads at most twice for each tag
pub record Unloaded (entry : Entry) (old new : LockedShown) (answer : Reclaim) : Type 0 where
  pub board : new.board ≡ old.board
  pub sections : new.sections ≡ old.sections
  pub ends : Ends entry.id old new answer
  pub within : TellsOf entry answer
  pub most : new.reads ≤ old.reads + 2 * old.board.shape.cpus * entry.length
  pub some : old.reads < new.reads
