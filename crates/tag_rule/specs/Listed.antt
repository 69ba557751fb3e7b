-- What the calls on the module list ask, and what they make of it.
use Rattle.std.specs.Prelude.{◌≡◌, ℕ, ◌+◌, ◌<◌, ◌≤◌, ◌==◌, ◌&&◌, ◌||◌, not, nat_le, Bool, true, IsTrue, if◌then◌else◌, Option, Some, None, List, [], ◌∷◌}
use Rattle.std.specs.List.{list_all, list_any}
use Rattle.tag_model.specs.declared.shape.Shape.{Shape}
use Rattle.tag_model.specs.declared.state.ListPart.{ListPart}
use Rattle.tag_model.specs.declared.state.Record.{Record}
use Rattle.tag_model.specs.declared.state.Run.{Run}
use Rattle.tag_model.specs.StepRules.{Enters, Leaves, MarksDead, Releases, Sweeps, run_on}
use Rattle.module_list.specs.Listing.{Listing, entered, left, list_part, listing_of, loaded, marked_dead, may_release, record_in, released, scanned, swept}
use Rattle.tag_rule.specs.declared.changing.Change.{Change}
use Rattle.tag_rule.specs.declared.changing.Change.TheVariants as change

-- ---- runs on their way

-- a run on the id is on its way
abbrev pub has_run : ℕ → List Run → Bool
has_run id away = list_any (λ (run : Run). run.id == id) away

-- the first of them is gone
abbrev pub without_run : ℕ → List Run → List Run
without_run id [] = []
without_run id (run ∷ away) = if run.id == id then away else run ∷ without_run id away

-- a run on the record comes to those on their way
abbrev pub with_run : Option Record → List Run → List Run
with_run None away = away
with_run (Some r) away = run_on r ∷ away

-- ---- changes

abbrev pub is_loaded : ℕ → List Record → Bool
is_loaded id records = list_any (λ (r : Record). (r.id == id) && not r.dead) records

abbrev pub is_unused : ℕ → List Record → Bool
is_unused id records = list_any (λ (r : Record). (r.id == id) && (not r.dead && (r.users == 0))) records

-- enter asks for a loaded record, leave for a run on its way, dead for a loaded record with no users, release for a sweep that is done with the id on its list
abbrev pub may_change : Change → ListPart → Bool
may_change (change.Enter id) l = is_loaded id l.records
may_change (change.Leave id) l = has_run id l.away
may_change (change.Dead id) l = is_unused id l.records
may_change change.Sweep l = true
may_change (change.Release id) l = may_release id l.sweep

-- the list, with other records, sweep and stops
abbrev pub relisted : ListPart → Listing → ListPart
relisted l now = list_part l.reads l.away now

abbrev pub changed : Change → ListPart → ListPart
changed (change.Enter id) l = list_part l.reads (with_run (record_in id l.records) l.away) (entered id (listing_of l))
changed (change.Leave id) l = list_part l.reads (without_run id l.away) (left id (listing_of l))
changed (change.Dead id) l = relisted l (marked_dead id (listing_of l))
changed change.Sweep l = relisted l (swept (listing_of l))
changed (change.Release id) l = relisted l (released id (listing_of l))

-- one step of the step rules, on the record of the id
abbrev pub IsChange : Change → ListPart → ListPart → Type 0
IsChange (change.Enter id) old new = (row : Enters old new) × (row.entry.id ≡ id)
IsChange (change.Leave id) old new = (row : Leaves old new) × (row.entry.id ≡ id)
IsChange (change.Dead id) old new = (row : MarksDead old new) × (row.entry.id ≡ id)
IsChange change.Sweep old new = Sweeps old new
IsChange (change.Release id) old new = (ids : List ℕ) × Releases ids id old new

-- ---- loads

-- the range has a tag, lies in the area and meets no record
pub record MayLoad (k : Shape) (start size : ℕ) (records : List Record) : Type 0 where
  pub some : 0 < size
  pub above_kernel : k.kernel_tags ≤ start
  pub within : start + size ≤ k.tags
  pub clear : IsTrue (list_all (λ (r : Record). nat_le (r.start + r.length) start || nat_le (start + size) r.start) records)

-- a loaded record of the id stands last
abbrev pub with_loaded : ℕ → ℕ → ℕ → ℕ → ListPart → ListPart
with_loaded id section start size l = relisted l (loaded id section start size (listing_of l))

-- ---- reads

-- the sweep has read a word
abbrev pub after_read : Shape → ℕ → ListPart → ListPart
after_read k word l = list_part (l.reads + 1) l.away (scanned k word (listing_of l))
