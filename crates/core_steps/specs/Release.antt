-- What a release finds: the module is dead, and no place and no hand names it, or a tag of its range. And what a kept range
-- tells: the sum that its sweep has read of a tag isn't 0.
use Rattle.std.specs.Prelude.{◌≡◌, ◌≢◌, ℕ, ◌+◌, ◌⊎◌, Some}
use Rattle.tag_model.specs.declared.state.Tag.{Tag}
use Rattle.tag_model.specs.declared.state.Hand.{Hand}
use Rattle.tag_model.specs.declared.state.Held.TheVariants as held
use Rattle.tag_model.specs.declared.state.Kind.{Kind}
use Rattle.tag_model.specs.declared.state.Reader.{Reader}
use Rattle.tag_model.specs.Wrap.{wrap}
use Rattle.module_ops.specs.Modules.{reads_next}
use Rattle.module_area.specs.declared.entry.Entry.{Entry}
use Rattle.module_area.specs.declared.entry.State.TheVariants.{Dead}
use Rattle.module_area.specs.Entries.{Covers, entry_of}
use Rattle.core_list.specs.declared.list.Next.TheVariants.{Release}
use Rattle.core_list.specs.ListState.{next_of}
use Rattle.module_ops.specs.declared.event.Event.{Event}
use Rattle.module_ops.specs.declared.event.Event.TheVariants.{Stepped, Released, Kept}
use Rattle.cpu_ops.specs.Machine.{held_at, hand_at}
use Rattle.core_steps.specs.CoreState.{CoreState, word_at}

-- the tag is of the module, or of its range
abbrev pub Names : Tag → Entry → Type 0
Names tag e = (tag.module ≡ e.id) ⊎ Covers e tag.number

pub record NothingNames (s : CoreState) (e : Entry) : Type 0 where
  pub places : (key size : ℕ) (tag : Tag) → held_at s.machine.places key ≡ held.Counted tag size → ¬ Names tag e
  pub hands : (cpu : ℕ) (hand : Hand) → hand_at s.machine cpu ≡ Some hand → ¬ Names hand.tag e

-- the module that the next step of the sweep releases
pub record IsReleasable (s : CoreState) (section : ℕ) : Type 0 where
  pub entry : Entry
  pub of_section : entry.section ≡ section
  pub next : next_of s.modules.list.sweep ≡ Release entry.id
  pub listed : entry_of s.modules.list.area.entries entry.id ≡ Some entry
  pub dead : entry.state ≡ Dead
  pub free : NothingNames s entry

-- a step that tells a release found the section's module so
abbrev pub IfReleases : CoreState → Event → Type 0
IfReleases s Stepped = Unit {0}
IfReleases s (Released section by) = IsReleasable s section
IfReleases s (Kept section index kind sum by) = Unit {0}

-- the step tells that the section's module is released
abbrev pub TellsRelease : ℕ → Event → Type 0
TellsRelease section Stepped = ⊥
TellsRelease section (Released told by) = told ≡ section
TellsRelease section (Kept told index kind sum by) = ⊥

-- ---- a range that is kept

-- the manager's next step reads the last CPU's word of this kind, of this tag of the section's module; and with it what
-- the sweep has read of that tag adds up to this sum, modulo 2^64, which isn't 0
pub record IsKept (s : CoreState) (section index : ℕ) (kind : Kind) (sum : ℕ) : Type 0 where
  pub reader : Reader
  pub entry : Entry
  pub reads : reads_next s.modules ≡ Some reader
  pub last_cpu : reader.cpu + 1 ≡ s.shape.cpus
  pub of_kind : reader.pass ≡ kind
  pub of_tag : reader.tag ≡ entry.start + index
  pub listed : entry_of s.modules.list.area.entries reader.id ≡ Some entry
  pub of_section : entry.section ≡ section
  pub total : wrap (reader.sum + word_at s.words reader.cpu reader.pass reader.tag) ≡ sum
  pub some : sum ≢ 0

-- a step that tells of a kept range found it so
abbrev pub IfKept : CoreState → Event → Type 0
IfKept s Stepped = Unit {0}
IfKept s (Released section by) = Unit {0}
IfKept s (Kept section index kind sum by) = IsKept s section index kind sum
