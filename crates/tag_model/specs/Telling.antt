-- What the laws tell of the parts that stand in a state.
use Rattle.std.specs.Prelude.{◌≡◌, ℕ, ◌<◌, ◌≤◌, ◌==◌, ◌&&◌, ◌||◌, not, nat_lt, Bool, if◌then◌else◌, List, [], ◌∷◌, sum_by, slice_index}
use Rattle.std.specs.List.{list_any}
use Rattle.tag_model.specs.declared.shape.Shape.{Shape}
use Rattle.tag_model.specs.declared.state.Tag.{Tag}
use Rattle.tag_model.specs.declared.state.Kind.{Kind}
use Rattle.tag_model.specs.declared.state.Note.{Note}
use Rattle.tag_model.specs.declared.state.Record.{Record}
use Rattle.tag_model.specs.declared.state.CpuPart.{CpuPart}
use Rattle.tag_model.specs.declared.state.ListPart.{ListPart}
use Rattle.tag_model.specs.declared.state.Part.{Part}
use Rattle.tag_model.specs.declared.state.Part.TheVariants.{Cpu, Place, Modules, NextId}
use Rattle.tag_model.specs.StepRules.{Stands}
use Rattle.tag_model.specs.WordState.{is_cpu, is_list, is_pass, in_range, records_with, word_place}

-- ---- the parts of a state

-- the CPU of a number, beside the other parts
pub record CpuOf (n : ℕ) (parts : List Part) : Type 0 where
  pub cpu : CpuPart
  pub number : cpu.number ≡ n
  pub stands : Stands (Cpu cpu ∷ []) parts

-- the module list, beside the other parts
pub record ListOf (parts : List Part) : Type 0 where
  pub list : ListPart
  pub stands : Stands (Modules list ∷ []) parts

-- the right to give the next id, beside the other parts
pub record PassOf (parts : List Part) : Type 0 where
  pub next : ℕ
  pub stands : Stands (NextId next ∷ []) parts

-- all CPUs of the shape, the module list and the right to give the next id are among these parts
pub record AreAllLent (k : Shape) (v : List Part) : Type 0 where
  pub cpus : (n : ℕ) → n < k.cpus → sum_by (is_cpu n) v ≡ 1
  pub list : sum_by is_list v ≡ 1
  pub pass : sum_by is_pass v ≡ 1

-- ---- tags and records

-- the tag is the kernel's, or the record of its module has it in its range
abbrev pub is_covered_by : Shape → List Record → Tag → Bool
is_covered_by k records tag = if tag.module == 0 then nat_lt tag.number k.kernel_tags else list_any (λ (r : Record). (r.id == tag.module) && in_range r.start r.length tag.number) records

-- the tag is the kernel's, or the loaded record of its module has it in its range
abbrev pub is_live_by : Shape → List Record → Tag → Bool
is_live_by k records tag = if tag.module == 0 then nat_lt tag.number k.kernel_tags else list_any (λ (r : Record). (r.id == tag.module) && in_range r.start r.length tag.number && not r.dead) records

-- the record isn't the one of the note, or is as the note tells: the same section and range, and dead if it was seen dead
abbrev pub is_as_noted : Note → Record → Bool
is_as_noted n r = not (r.id == n.id) || ((r.section == n.section) && (r.start == n.start) && (r.length == n.length) && (not n.seen_dead || r.dead))

-- the tag number lies above the kernel's, and in no record's range
pub record IsNobodys (k : Shape) (t : ℕ) (parts : List Part) : Type 0 where
  pub above : k.kernel_tags ≤ t
  pub free : sum_by (records_with (λ r. in_range r.start r.length t)) parts ≡ 0

-- so it is in a state and in each that follows it, but for the last
abbrev pub AreNobodys : Shape → ℕ → List Part → List (List Part) → Type 0
AreNobodys k t state [] = Unit {0}
AreNobodys k t state (next ∷ later) = IsNobodys k t state × AreNobodys k t next later

-- the word of one CPU
abbrev pub own_word : ℕ → Kind → ℕ → Part → ℕ
own_word n kind t (Cpu c) = if c.number == n then slice_index c.words (word_place kind t) else 0
own_word n kind t (Place number held) = 0
own_word n kind t (Modules l) = 0
own_word n kind t (NextId id) = 0
