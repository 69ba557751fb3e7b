-- The module list of the core: the book, the last id given, and the sweep with its stops. Each change of it is one step of the step rules.
use Rattle.std.specs.Prelude.{ℕ, ◌+◌, ◌*◌, ◌≤◌, ◌==◌, ◌||◌, if◌then◌else◌, Option, Some, None, List, [], ◌∷◌, ◌++◌, is_some, length, map, All}
use Rattle.std.specs.List.{find}
use Rattle.tag_model.specs.declared.shape.Shape.{Shape}
use Rattle.tag_model.specs.declared.state.Kind.TheVariants.{Bytes}
use Rattle.tag_model.specs.declared.state.Run.{Run}
use Rattle.tag_model.specs.declared.state.Record.{Record}
use Rattle.tag_model.specs.declared.state.Stop.{Stop}
use Rattle.tag_model.specs.declared.state.Sweep.{Sweep}
use Rattle.tag_model.specs.declared.state.Sweep.TheVariants as sweep
use Rattle.tag_model.specs.declared.state.ListPart.{ListPart}
use Rattle.tag_model.specs.Sweeping as sweeping
use Rattle.tag_model.specs.Sweeping.{ids_left, steps_left}
use Rattle.tag_model.specs.StepRules.{begins_pass, sweep_after, stop_after, dead_ids, without_id}
use Rattle.module_list.specs.Listing as listing
use Rattle.module_list.specs.Listing.{Listing}
pub use Rattle.module_list.specs.Listing.{found_at, sum_read}
use Rattle.module_area.specs.declared.entry.Entry.{Entry}
use Rattle.module_area.specs.declared.entry.State.TheVariants.{Loaded}
use Rattle.module_area.specs.declared.book.AreaError.{AreaError}
use Rattle.module_area.specs.declared.book.AreaError.TheVariants.{SameName, BookFull, NoRoom}
use Rattle.module_area.specs.declared.book.TheConstants.{BOOK_LIMIT}
pub use Rattle.module_area.specs.Entries.{is_dead}
use Rattle.module_area.specs.Entries.{is_loaded_as, with_entry, without_entry, entered, left, kept}
use Rattle.module_area.specs.Area.{Area, IsBook}
pub use Rattle.module_area.specs.Area.{least_start}
use Rattle.core_list.specs.declared.list.TheConstants.{LAST_ID}
use Rattle.core_list.specs.declared.list.Next.{Next}
use Rattle.core_list.specs.declared.list.Next.TheVariants.{Nothing, Read, Release}

pub record ListState : Type 0 where
  pub area : Area
  pub last_id : ℕ
  pub sweep : Sweep
  pub stops : List Stop

-- ---- as a part of the word state

abbrev pub record_of : Entry → Record
record_of e = record { id = e.id; section = e.section; start = e.start; length = e.length; dead = is_dead e.state; users = e.users }

abbrev pub run_of : Entry → Run
run_of e = record { id = e.id; section = e.section; start = e.start; length = e.length }

abbrev pub records_of : ListState → List Record
records_of l = map record_of l.area.entries

abbrev pub listed : ListState → Listing
listed l = record { records = records_of l; sweep = l.sweep; stops = l.stops }

-- after so many reads, with these runs on their way
abbrev pub list_part : ℕ → List Run → ListState → ListPart
list_part reads away l = listing.list_part reads away (listed l)

-- ---- the module of a section

abbrev pub loaded_entry : ℕ → ListState → Option Entry
loaded_entry section l = find (is_loaded_as section) l.area.entries

-- the section of an id's entry
abbrev pub section_in : Option Entry → ℕ
section_in None = 0
section_in (Some e) = e.section

abbrev pub start_in : Option Entry → ℕ
start_in None = 0
start_in (Some e) = e.start

-- ---- load

abbrev pub unless_room : Option ℕ → Option AreaError
unless_room None = Some NoRoom
unless_room (Some start) = None

-- why a module of so many tags isn't loaded, in the order of the checks
abbrev pub load_refusal : ℕ → ℕ → ListState → Option AreaError
load_refusal section size l =
    if is_some (loaded_entry section l) then Some SameName
    else (if (length l.area.entries == BOOK_LIMIT) || (l.last_id == LAST_ID) then Some BookFull
    else unless_room (least_start l.area size))

abbrev pub or_zero : Option ℕ → ℕ
or_zero None = 0
or_zero (Some n) = n

-- what a module of so many tags gets: the next id, and the least start
abbrev pub new_entry : ℕ → ℕ → ListState → Entry
new_entry section size l = record { id = l.last_id + 1; section = section; start = or_zero (least_start l.area size); length = size; state = Loaded; users = 0 }

-- the module is loaded
abbrev pub loaded : ℕ → ℕ → ListState → ListState
loaded section size l = record l { area = record l.area { entries = l.area.entries ++ new_entry section size l ∷ [] }; last_id = l.last_id + 1 }

-- ---- enter, leave, dead

abbrev pub with_changed : ℕ → (Entry → Entry) → ListState → ListState
with_changed id change l = record l { area = record l.area { entries = with_entry id change l.area.entries } }

-- a CPU comes into the module
abbrev pub entered_list : ℕ → ListState → ListState
entered_list id l = with_changed id entered l

-- a CPU goes out of the module
abbrev pub left_list : ℕ → ListState → ListState
left_list id l = with_changed id left l

-- the module is dead, and a sweep of it alone begins
abbrev pub dead_list : ℕ → ListState → ListState
dead_list id l = let m = with_changed id kept l in record m { sweep = begins_pass Bytes (id ∷ []) (records_of m); stops = [] }

-- ---- the sweep

-- a sweep of all dead modules begins
abbrev pub swept_list : ListState → ListState
swept_list l = record l { sweep = begins_pass Bytes (dead_ids (records_of l)) (records_of l); stops = [] }

abbrev pub scanned_at : Shape → ℕ → ListState → Sweep → ListState
scanned_at k word l sweep.None = l
scanned_at k word l (sweep.Done left) = l
scanned_at k word l (sweep.Reading left r) =
    record l { sweep = sweep_after k (records_of l) left r (sum_read r word); stops = l.stops ++ stop_after k r (sum_read r word) }

-- the sweep reads a word
abbrev pub scanned : Shape → ℕ → ListState → ListState
scanned k word l = scanned_at k word l l.sweep

abbrev pub read_to_at : ℕ → ℕ → ListState → Sweep → ListState
read_to_at cpu sum l sweep.None = l
read_to_at cpu sum l (sweep.Done left) = l
read_to_at cpu sum l (sweep.Reading left r) = record l { sweep = sweep.Reading left (record r { cpu = cpu; sum = sum }) }

-- the sweep is at this CPU of the tag that it reads, and has this sum
abbrev pub read_to : ℕ → ℕ → ListState → ListState
read_to cpu sum l = read_to_at cpu sum l l.sweep

abbrev pub released_at : ListState → Sweep → ListState
released_at l sweep.None = l
released_at l (sweep.Reading left r) = l
released_at l (sweep.Done []) = l
released_at l (sweep.Done (id ∷ left)) = record l { area = record l.area { entries = without_entry id l.area.entries }; sweep = sweep.Done (without_id id (id ∷ left)) }

-- the first module of the list of a sweep that is done is released
abbrev pub released : ListState → ListState
released l = released_at l l.sweep

-- what a sweep does next: it reads, or it releases the first module on its list
abbrev pub next_of : Sweep → Next
next_of sweep.None = Nothing
next_of (sweep.Reading left r) = Read r
next_of (sweep.Done []) = Nothing
next_of (sweep.Done (id ∷ left)) = Release id

-- ---- what holds of every list

-- the ids that are left on its list
abbrev pub left_ids : Sweep → List ℕ
left_ids s = ids_left s

pub record IsList (l : ListState) : Type 0 where
  pub book : IsBook l.area
  pub given : All (λ e. e.id ≤ l.last_id) l.area.entries
  pub last : l.last_id ≤ LAST_ID
  pub few : length l.stops + length (left_ids l.sweep) ≤ BOOK_LIMIT

-- before anything is loaded
abbrev pub fresh_list : ℕ → ℕ → ListState
fresh_list first tags = record { area = record { entries = []; first = first; tags = tags }; last_id = 0; sweep = sweep.None; stops = [] }

-- ---- how long a sweep still takes

-- the tags of the entries on a list of ids
abbrev pub tags_of : List ℕ → List Entry → ℕ
tags_of ids entries = sweeping.tags_of ids (map record_of entries)

-- at most so many steps are left: the reads, and a release of each entry on the list
abbrev pub steps_at : Shape → List Entry → Sweep → ℕ
steps_at k entries s = steps_left k (map record_of entries) s

abbrev pub sweep_steps : Shape → ListState → ℕ
sweep_steps k l = steps_at k l.area.entries l.sweep

-- no sweep takes more
abbrev pub most_steps : Shape → ℕ
most_steps k = 2 * k.cpus * (BOOK_LIMIT * k.tags) + BOOK_LIMIT
