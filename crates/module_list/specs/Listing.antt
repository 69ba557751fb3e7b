-- The module list: its records by rising id, the sweep and its stops; and what each step of the step rules makes of it.
use Rattle.std.specs.Prelude.{ℕ, ◌+◌, ◌-◌, ◌≤◌, ◌==◌, not, nat_le, Bool, true, false, IsTrue, if◌then◌else◌, Option, Some, None, List, [], ◌∷◌, ◌++◌, length, map, filter, slice_get}
use Rattle.std.specs.List.{find, list_all}
use Rattle.tag_model.specs.declared.shape.Shape.{Shape}
use Rattle.tag_model.specs.declared.state.Kind.TheVariants.{Bytes}
use Rattle.tag_model.specs.declared.state.Run.{Run}
use Rattle.tag_model.specs.declared.state.Record.{Record}
use Rattle.tag_model.specs.declared.state.Reader.{Reader}
use Rattle.tag_model.specs.declared.state.Stop.{Stop}
use Rattle.tag_model.specs.declared.state.Sweep.{Sweep}
use Rattle.tag_model.specs.declared.state.Sweep.TheVariants as sweep
use Rattle.tag_model.specs.declared.state.ListPart.{ListPart}
use Rattle.tag_model.specs.Laws.{ids_of, is_listed, rises_from}
use Rattle.tag_model.specs.Sweeping.{ids_left}
use Rattle.tag_model.specs.StepRules.{begins_pass, dead_ids, stop_after, sweep_after, without_id}
use Rattle.tag_model.specs.Wrap.{wrap}

pub record Listing : Type 0 where
  pub records : List Record
  pub sweep : Sweep
  pub stops : List Stop

-- as a part of the word state: after so many reads, with these runs on their way
abbrev pub list_part : ℕ → List Run → Listing → ListPart
list_part reads away l = record { records = l.records; sweep = l.sweep; stops = l.stops; reads = reads; away = away }

-- what a part of the word state lists
abbrev pub listing_of : ListPart → Listing
listing_of l = record { records = l.records; sweep = l.sweep; stops = l.stops }

-- ---- records

-- the record of an id
abbrev pub record_in : ℕ → List Record → Option Record
record_in id records = find (λ (r : Record). r.id == id) records

-- the records, with the one of the id changed
abbrev pub with_record : ℕ → (Record → Record) → List Record → List Record
with_record id change records = map (λ (r : Record). if r.id == id then change r else r) records

abbrev pub entered_record : Record → Record
entered_record r = record r { users = r.users + 1 }

abbrev pub left_record : Record → Record
left_record r = record r { users = r.users - 1 }

abbrev pub dead_record : Record → Record
dead_record r = record r { dead = true }

-- ---- changes

-- a loaded record of the id, with this range, stands last
abbrev pub loaded : ℕ → ℕ → ℕ → ℕ → Listing → Listing
loaded id section start size l = record l { records = l.records ++ record { id = id; section = section; start = start; length = size; dead = false; users = 0 } ∷ [] }

-- a CPU comes into the module
abbrev pub entered : ℕ → Listing → Listing
entered id l = record l { records = with_record id entered_record l.records }

-- a CPU goes out of the module
abbrev pub left : ℕ → Listing → Listing
left id l = record l { records = with_record id left_record l.records }

-- the module is dead, and a sweep of it alone begins
abbrev pub marked_dead : ℕ → Listing → Listing
marked_dead id l = let records = with_record id dead_record l.records in record { records = records; sweep = begins_pass Bytes (id ∷ []) records; stops = [] }

-- a sweep of all dead modules begins
abbrev pub swept : Listing → Listing
swept l = record l { sweep = begins_pass Bytes (dead_ids l.records) l.records; stops = [] }

-- a read adds a word to the sum
abbrev pub sum_read : Reader → ℕ → ℕ
sum_read r word = wrap (r.sum + word)

abbrev pub scanned_at : Shape → ℕ → Listing → Sweep → Listing
scanned_at k word l sweep.None = l
scanned_at k word l (sweep.Done left) = l
scanned_at k word l (sweep.Reading left r) = record l { sweep = sweep_after k l.records left r (sum_read r word); stops = l.stops ++ stop_after k r (sum_read r word) }

-- the sweep reads a word
abbrev pub scanned : Shape → ℕ → Listing → Listing
scanned k word l = scanned_at k word l l.sweep

abbrev pub read_to_at : ℕ → ℕ → Listing → Sweep → Listing
read_to_at cpu sum l sweep.None = l
read_to_at cpu sum l (sweep.Done left) = l
read_to_at cpu sum l (sweep.Reading left r) = record l { sweep = sweep.Reading left (record r { cpu = cpu; sum = sum }) }

-- the sweep is at this CPU of the tag that it reads, and has this sum
abbrev pub read_to : ℕ → ℕ → Listing → Listing
read_to cpu sum l = read_to_at cpu sum l l.sweep

-- what a read finds, where it takes the module off the sweep's list
abbrev pub found_at : Shape → ℕ → Sweep → Option Stop
found_at k word sweep.None = None
found_at k word (sweep.Done left) = None
found_at k word (sweep.Reading left r) = slice_get (stop_after k r (sum_read r word)) 0

abbrev pub released_at : ℕ → Listing → Sweep → Listing
released_at id l sweep.None = l
released_at id l (sweep.Reading left r) = l
released_at id l (sweep.Done left) = record l { records = filter (λ (r : Record). not (r.id == id)) l.records; sweep = sweep.Done (without_id id left) }

-- a module on the list of a sweep that is done is released
abbrev pub released : ℕ → Listing → Listing
released id l = released_at id l l.sweep

-- ---- what the sweep does next

-- the sweep is done, and has the id on its list
abbrev pub may_release : ℕ → Sweep → Bool
may_release id sweep.None = false
may_release id (sweep.Reading left r) = false
may_release id (sweep.Done left) = is_listed left id

-- the word that the sweep reads next
abbrev pub reader_of : Sweep → Option Reader
reader_of sweep.None = None
reader_of (sweep.Reading left r) = Some r
reader_of (sweep.Done left) = None

-- the first module that a sweep that is done may release
abbrev pub releasable : Sweep → Option ℕ
releasable sweep.None = None
releasable (sweep.Reading left r) = None
releasable (sweep.Done left) = slice_get left 0

-- ---- what is kept at run time

-- the users of a module are counted by the word state alone
abbrev pub bare_record : Record → Record
bare_record r = record r { users = 0 }

abbrev pub bare : Listing → Listing
bare l = record l { records = map bare_record l.records }

-- the most records, ids on a sweep's list, and stops
abbrev pub record_limit : ℕ
record_limit = 64

pub record IsListing (l : Listing) : Type 0 where
  pub few : length l.records ≤ record_limit
  pub rises : IsTrue (rises_from 0 (ids_of l.records))
  pub ends : IsTrue (list_all (λ (r : Record). nat_le (r.start + r.length) 4294967295) l.records)
  pub room : length l.stops + length (ids_left l.sweep) ≤ record_limit

abbrev pub fresh_listing : Listing
fresh_listing = record { records = []; sweep = sweep.None; stops = [] }
