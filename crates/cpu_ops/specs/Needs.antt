-- What a step needs: that the words, the places and the sections which it reads and writes are there. A caller keeps
-- it; it says nothing of what a step means.
use Rattle.std.specs.Prelude.{◌≡◌, ◌≢◌, ◌^◌, length, IsTrue, ℕ, ◌+◌, ◌*◌, ◌<◌, ◌≤◌, Option, Some, None, List, [], ◌∷◌}
use Rattle.tag_model.specs.declared.state.Hand.{Hand}
use Rattle.tag_model.specs.declared.state.Run.{Run}
use Rattle.tag_model.specs.declared.limits.TheConstants.{MAX_HAND_CALLS}
use Rattle.cpu_ops.specs.declared.op.CpuOp.{CpuOp}
use Rattle.cpu_ops.specs.declared.op.CpuOp.TheVariants.{Open, Close, Split, Swap, Trim, Enter, Leave}
use Rattle.cpu_ops.specs.declared.op.TheConstants.{KEY_END}
use Rattle.cpu_ops.specs.declared.step.WordStep.{WordStep}
use Rattle.cpu_ops.specs.declared.step.WordStep.TheVariants.{BeginAllocation, AddBytes, AddCall, SubtractBytes, SubtractCall, Write}
use Rattle.cpu_ops.specs.Machine.{Machine, Scene, hand_at, waiting_at, step_of, step_count, tag_in, refusal_in, reserves}

abbrev pub HandInWords : Option Hand → ℕ → Type 0
HandInWords None words = Unit {0}
HandInWords (Some h) words = 2 * h.tag.number + 1 < words

-- there is room for a call more
abbrev pub HasRoom : Option Hand → Type 0
HasRoom None = Unit {0}
HasRoom (Some h) = h.calls < MAX_HAND_CALLS

-- a hand holds a call
abbrev pub HasCall : Option Hand → Type 0
HasCall None = Unit {0}
HasCall (Some h) = 0 < h.calls

-- a hand holds so many bytes
abbrev pub HasBytes : ℕ → Option Hand → Type 0
HasBytes bytes None = Unit {0}
HasBytes bytes (Some h) = bytes ≤ h.bytes

-- the words and the place that a step writes are there, and the hand holds what it gives up
abbrev pub CanTake : WordStep → Option Hand → ℕ → ℕ → Type 0
CanTake (BeginAllocation tag) hand words places = 2 * tag.number + 1 < words
CanTake (AddBytes size) hand words places = HandInWords hand words
CanTake AddCall hand words places = HandInWords hand words × HasRoom hand
CanTake (SubtractBytes bytes) hand words places = HandInWords hand words × HasBytes bytes hand
CanTake SubtractCall hand words places = HandInWords hand words × HasCall hand
CanTake (Write key held next) hand words places = key < places
CanTake other hand words places = Unit {0}

-- each key that the op names has a place, and a split has parts
abbrev pub KeysFit : CpuOp → Type 0
KeysFit (Open key section index size) = key < KEY_END
KeysFit (Close key) = key < KEY_END
KeysFit (Split key parts first) = (key < KEY_END) × (0 < parts) × (first + parts < KEY_END + 2)
KeysFit (Swap one two) = (one < KEY_END) × (two < KEY_END)
KeysFit (Trim key bytes) = key < KEY_END
KeysFit other = Unit {0}

-- the section that the op names has a place among the runs
abbrev pub SectionsFit : CpuOp → ℕ → Type 0
SectionsFit (Open key section index size) sections = section < sections
SectionsFit (Enter section) sections = section < sections
SectionsFit (Leave section) sections = section < sections
SectionsFit other sections = Unit {0}

-- a tag's number is a 32-bit number
abbrev pub TagFits : CpuOp → List (Option Run) → Type 0
TagFits (Open key section index size) inside = (tag_in inside section index).number < 2 ^ 32
TagFits other inside = Unit {0}

-- what a step of an op reads and writes is there
abbrev pub CanStep : Machine → Scene → List ℕ → ℕ → List CpuOp → ℕ → Type 0
CanStep m scene own cpu [] done = Unit {0}
CanStep m scene own cpu (op ∷ ops) done =
    KeysFit op × (done < step_count op) × HasCall (hand_at m cpu) × SectionsFit op (length scene.inside)
    × (refusal_in m scene (op ∷ ops) done ≡ None
    → CanTake (step_of op done (hand_at m cpu) m.places scene.inside) (hand_at m cpu) (length own) (length m.places) × (done ≡ 0 → TagFits op scene.inside))

-- what the CPU's next step reads and writes is there, and no other CPU reserves a key that this one does
pub record CanGo (m : Machine) (scene : Scene) (own : List ℕ) (cpu : ℕ) : Type 0 where
  pub below : cpu < length m.waiting
  pub hands : length m.hands ≡ length m.waiting
  pub step : let w = waiting_at m cpu in CanStep m scene own cpu w.ops w.done
  pub apart : (other key : ℕ) → other < length m.waiting → other ≢ cpu → IsTrue (reserves key (waiting_at m cpu)) → IsTrue (reserves key (waiting_at m other)) → ⊥
