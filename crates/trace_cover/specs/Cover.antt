-- Which tags the references of a machine have: the kernel's, and those in the ranges of its modules.
use Rattle.std.specs.Prelude.{ℕ, ◌≡◌, ◌<◌, ◌≤◌, ◌==◌, ◌&&◌, ◌||◌, nat_lt, not, Bool, true, List, length, All}
use Rattle.std.specs.List.{list_all, list_any, range_with_len}
use Rattle.tag_model.specs.declared.state.Held.{Held}
use Rattle.tag_model.specs.declared.state.Held.TheVariants as held
use Rattle.tag_model.specs.declared.state.Tag.{Tag}
use Rattle.tag_model.specs.declared.state.Kind.TheVariants.{Bytes, Calls}
use Rattle.tag_model.specs.Index.{Slot}
use Rattle.tag_model.specs.Reference.{live_total}
use Rattle.tag_model.specs.Wrap.{wrap}
use Rattle.module_area.specs.declared.entry.Entry.{Entry}
use Rattle.module_area.specs.Area.{IsBook}
use Rattle.module_area.specs.Entries.{covers, is_dead}
use Rattle.trace.specs.declared.traces.Trace.{Trace}
use Rattle.trace_play.specs.Live.{Content, held_of}
use Rattle.trace_play.specs.Machine.{Machine, live_cells}
use Rattle.trace_play.specs.Barrier.{is_named}
use Rattle.trace_play.specs.Play.{section_len}

-- what is held passes where its tag does
abbrev pub held_may : (Tag → Bool) → Held → Bool
held_may may held.None = true
held_may may held.Empty = true
held_may may (held.Counted tag size) = may tag

-- the entry is that of the tag's module, and has the tag in its range
abbrev pub has_tag : Tag → Entry → Bool
has_tag tag entry = (entry.id == tag.module) && covers entry tag.number

-- one of so many tags of the kernel, or of an entry
abbrev pub is_covered : ℕ → List Entry → Tag → Bool
is_covered kernel entries tag = ((tag.module == 0) && nat_lt tag.number kernel) || list_any (has_tag tag) entries

-- the entry is of a section of the trace, and has its length
abbrev pub IsOfSection : Trace → Entry → Type 0
IsOfSection trace e = (e.section < length trace.sections) × (e.length ≡ section_len trace e.section)

-- The entries are a book, of the trace's sections, with ids that were given and no users; and the tag of each reference
-- is the kernel's or that of an entry.
pub record HasCover (trace : Trace) (m : Machine) : Type 0 where
  pub book : IsBook m.area
  pub first : m.area.first ≡ 128
  pub tags : m.area.tags ≡ trace.area
  pub named : All (IsOfSection trace) m.area.entries
  pub given : All (λ (e : Entry). e.id ≤ m.last_id) m.area.entries
  pub unused : All (λ (e : Entry). e.users ≡ 0) m.area.entries
  pub covered : list_all (λ (entry : Slot × Held). held_may (is_covered (section_len trace 0) m.area.entries) entry.1) (live_cells m) ≡ true

-- each dead entry is named by a reference
abbrev pub AreNamed : Machine → Type 0
AreNamed m = list_all (λ (e : Entry). not (is_dead e.state) || is_named e.id m) m.area.entries ≡ true

-- ---- what is counted under a module's tags

-- what a key is bound to has a reference under the tag
pub record HasReference (t : ℕ) (content : Content) : Type 0 where
  pub tag : Tag
  pub size : ℕ
  pub is : held_of content ≡ held.Counted tag size
  pub at : tag.number ≡ t

-- the bytes and the calls under the tag are 0, as words keep them
abbrev pub is_quiet_at : Machine → ℕ → Bool
is_quiet_at m t = (wrap (live_total Bytes t (live_cells m)) == 0) && (wrap (live_total Calls t (live_cells m)) == 0)

-- so are those under each tag of the entry
abbrev pub is_quiet_range : Machine → Entry → Bool
is_quiet_range m e = list_all (is_quiet_at m) (range_with_len e.start e.length)

-- an entry's module is named exactly where something is counted under one of its tags
abbrev pub AreCounted : Machine → Type 0
AreCounted m = All (λ (e : Entry). is_named e.id m ≡ not (is_quiet_range m e)) m.area.entries
