-- Two laws once more, spelled out: nothing here rests on the definitions by which they are proved, but for the safe state and the steps themselves.
use Rattle.std.specs.Prelude.{◌≡◌, ◌≢◌, ℕ, ◌+◌, ◌*◌, ◌==◌, if◌then◌else◌, Option, Some, None, List, ◌∷◌, ◌++◌, slice_index}
use Rattle.tag_model.specs.declared.shape.Shape.{Shape}
use Rattle.tag_model.specs.declared.state.Hand.{Hand}
use Rattle.tag_model.specs.declared.state.Held.{Held}
use Rattle.tag_model.specs.declared.state.Held.TheVariants as held
use Rattle.tag_model.specs.declared.state.Record.{Record}
use Rattle.tag_model.specs.declared.state.ListPart.{ListPart}
use Rattle.tag_model.specs.declared.state.Part.{Part}
use Rattle.tag_model.specs.declared.state.Part.TheVariants.{Cpu, Place, Modules, NextId}
use Rattle.tag_model.specs.Histories.{Leads}

-- ---- the sum law: two words for each tag of a CPU, bytes and then calls

abbrev pub byte_word : ℕ → Part → ℕ
byte_word t (Cpu c) = slice_index c.words (2 * t)
byte_word t (Place n h) = 0
byte_word t (Modules l) = 0
byte_word t (NextId id) = 0

abbrev pub call_word : ℕ → Part → ℕ
call_word t (Cpu c) = slice_index c.words (2 * t + 1)
call_word t (Place n h) = 0
call_word t (Modules l) = 0
call_word t (NextId id) = 0

abbrev pub bytes_in_place : ℕ → Held → ℕ
bytes_in_place t held.None = 0
bytes_in_place t held.Empty = 0
bytes_in_place t (held.Counted tag size) = if tag.number == t then size else 0

abbrev pub calls_in_place : ℕ → Held → ℕ
calls_in_place t held.None = 0
calls_in_place t held.Empty = 0
calls_in_place t (held.Counted tag size) = if tag.number == t then 1 else 0

abbrev pub bytes_in_hand : ℕ → Option Hand → ℕ
bytes_in_hand t None = 0
bytes_in_hand t (Some h) = if h.tag.number == t then h.bytes else 0

abbrev pub calls_in_hand : ℕ → Option Hand → ℕ
calls_in_hand t None = 0
calls_in_hand t (Some h) = if h.tag.number == t then h.calls else 0

-- the bytes that are counted under a tag, by places and hands, and the calls
abbrev pub bytes_under : ℕ → Part → ℕ
bytes_under t (Cpu c) = bytes_in_hand t c.hand
bytes_under t (Place n h) = bytes_in_place t h
bytes_under t (Modules l) = 0
bytes_under t (NextId id) = 0

abbrev pub calls_under : ℕ → Part → ℕ
calls_under t (Cpu c) = calls_in_hand t c.hand
calls_under t (Place n h) = calls_in_place t h
calls_under t (Modules l) = 0
calls_under t (NextId id) = 0

-- ---- the release: a record stands in the module list before a step or a base move, and none of its id stands there after it

pub record RecordGoes (k : Shape) (r : Record) (old new : List Part) : Type 0 where
  pub leads : Leads k old new
  pub ahead : List Part
  pub was : ListPart
  pub behind : List Part
  pub old_list : old ≡ ahead ++ Modules was ∷ behind
  pub front : List Record
  pub back : List Record
  pub there : was.records ≡ front ++ r ∷ back
  pub before : List Part
  pub is : ListPart
  pub after : List Part
  pub new_list : new ≡ before ++ Modules is ∷ after
  pub gone : (some more : List Record) (x : Record) → is.records ≡ some ++ x ∷ more → x.id ≢ r.id
