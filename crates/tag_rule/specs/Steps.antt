-- What the steps on words ask, and what is in hand afterwards.
use Rattle.std.specs.Prelude.{◌≡◌, ℕ, ◌+◌, ◌-◌, ◌<◌, ◌≤◌, ◌==◌, ◌&&◌, ◌⊎◌, not, true, false, IsTrue, if◌then◌else◌, Option, Some, None}
use Rattle.tag_model.specs.declared.limits.TheConstants.{MAX_HAND_CALLS}
use Rattle.tag_model.specs.declared.state.CpuPart.{CpuPart}
use Rattle.tag_model.specs.declared.state.Hand.{Hand}
use Rattle.tag_model.specs.declared.state.Held.{Held}
use Rattle.tag_model.specs.declared.state.Held.TheVariants as held
use Rattle.tag_model.specs.declared.state.Kind.{Kind}
use Rattle.tag_model.specs.declared.state.Kind.TheVariants.{Bytes, Calls}
use Rattle.tag_model.specs.declared.state.Tag.{Tag}
use Rattle.tag_model.specs.Reference.{hand_counts_of, held_counts_of, is_counted}
use Rattle.tag_model.specs.StepRules.{may_begin}
use Rattle.tag_rule.specs.Shown.{CpuShown}

-- a split counts a call more for the tag that the CPU holds
pub record MaySplit (tag : Tag) (cpu : CpuShown) (hand : Hand) : Type 0 where
  pub held : cpu.part.hand ≡ Some hand
  pub named : hand.tag ≡ tag
  pub settled : hand.opening ≡ false
  pub counted : 0 < hand.bytes
  pub room : hand.calls < MAX_HAND_CALLS

-- an allocation may begin under the tag, or a split counts a call more
abbrev pub MayAddCall : Tag → CpuShown → Type 0
MayAddCall tag cpu = ((cpu.part.hand ≡ None) × IsTrue (may_begin cpu.board.shape tag cpu.part.runs)) ⊎ ((hand : Hand) × MaySplit tag cpu hand)

-- the hand with a call more, or that of a new allocation
abbrev pub with_call : Tag → Option Hand → Hand
with_call tag None = record { tag = tag; bytes = 0; calls = 1; opening = true }
with_call tag (Some h) = record h { calls = h.calls + 1 }

-- the allocation whose bytes aren't counted yet
pub record HoldsOpening (cpu : CpuShown) : Type 0 where
  pub hand : Hand
  pub held : cpu.part.hand ≡ Some hand
  pub opening : hand.opening ≡ true
  pub none_yet : hand.bytes ≡ 0

-- at least these bytes, of no allocation
pub record HoldsBytes (bytes : ℕ) (cpu : CpuShown) : Type 0 where
  pub hand : Hand
  pub held : cpu.part.hand ≡ Some hand
  pub settled : hand.opening ≡ false
  pub within : bytes ≤ hand.bytes

-- a call, of no allocation; the last only once no byte is left
pub record HoldsCall (cpu : CpuShown) : Type 0 where
  pub hand : Hand
  pub held : cpu.part.hand ≡ Some hand
  pub settled : hand.opening ≡ false
  pub bytes_first : hand.calls ≡ 1 → hand.bytes ≡ 0

-- ---- what is in hand once a place that held `was` is written `next`

abbrev pub with_hand : Option Hand → CpuPart → CpuPart
with_hand hand c = record c { hand = hand }

-- what hand and place count together under the tag, less what the place counts then
abbrev pub left : Kind → Tag → Option Hand → Held → Held → ℕ
left kind tag hand was next = hand_counts_of kind tag hand + held_counts_of kind tag was - held_counts_of kind tag next

-- a hand with what is left under the tag, where a call is left
abbrev pub left_hand : Tag → Option Hand → Held → Held → Option Hand
left_hand tag hand was next =
    if left Calls tag hand was next == 0 then None
    else Some (record { tag = tag; bytes = left Bytes tag hand was next; calls = left Calls tag hand was next; opening = false })

abbrev pub or_hand : Option Hand → Option Hand → Option Hand
or_hand None other = other
or_hand (Some hand) other = Some hand

-- under the hand's tag
abbrev pub left_of_hand : Option Hand → Held → Held → Option Hand
left_of_hand None was next = None
left_of_hand (Some h) was next = left_hand h.tag (Some h) was next

-- under the place's
abbrev pub left_of_place : Option Hand → Held → Held → Option Hand
left_of_place hand held.None next = None
left_of_place hand held.Empty next = None
left_of_place hand (held.Counted tag size) next = left_hand tag hand (held.Counted tag size) next

-- where neither what the place held nor what is written counts, the hand stays; else it is what is left of both
abbrev pub hand_after : Option Hand → Held → Held → Option Hand
hand_after hand was next = if not (is_counted was) && not (is_counted next) then hand else or_hand (left_of_hand hand was next) (left_of_place hand was next)
