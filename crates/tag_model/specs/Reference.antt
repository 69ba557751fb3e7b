-- References, hands, and what they count. A reference's size is from 1 to 2^44 - 1.
use Rattle.std.specs.Prelude.{ℕ, ◌==◌, ◌&&◌, not, nat_lt, nat_le, Bool, false, true, if◌then◌else◌, Option, Some, None, List, ◌||◌, sum_by}
use Rattle.tag_model.specs.declared.state.Tag.{Tag}
use Rattle.tag_model.specs.declared.state.Hand.{Hand}
use Rattle.tag_model.specs.declared.state.Held.{Held}
use Rattle.tag_model.specs.declared.state.Held.TheVariants as held
use Rattle.tag_model.specs.declared.state.Kind.{Kind}
use Rattle.tag_model.specs.declared.state.Kind.TheVariants.{Bytes, Calls}
use Rattle.tag_model.specs.declared.limits.TheConstants.{SIZE_END, MAX_HAND_CALLS}

-- both name one line of one module
abbrev pub same_tag : Tag → Tag → Bool
same_tag a b = (a.number == b.number) && (a.module == b.module)

-- a place holds a reference
abbrev pub is_counted : Held → Bool
is_counted (held.Counted tag size) = true
is_counted other = false

-- bytes count a reference's size, calls count 1 for it
abbrev pub amount : Kind → ℕ → ℕ → ℕ
amount Bytes bytes calls = bytes
amount Calls bytes calls = calls

-- what a place's Held counts under tag number t
abbrev pub held_counts : Kind → ℕ → Held → ℕ
held_counts kind t held.None = 0
held_counts kind t held.Empty = 0
held_counts kind t (held.Counted tag size) = if tag.number == t then amount kind size 1 else 0

-- what a hand counts under tag number t
abbrev pub hand_counts : Kind → ℕ → Option Hand → ℕ
hand_counts kind t None = 0
hand_counts kind t (Some h) = if h.tag.number == t then amount kind h.bytes h.calls else 0

-- what a place's Held counts under a tag of a module
abbrev pub held_counts_of : Kind → Tag → Held → ℕ
held_counts_of kind named held.None = 0
held_counts_of kind named held.Empty = 0
held_counts_of kind named (held.Counted tag size) = if same_tag tag named then amount kind size 1 else 0

-- what a hand counts under a tag of a module
abbrev pub hand_counts_of : Kind → Tag → Option Hand → ℕ
hand_counts_of kind named None = 0
hand_counts_of kind named (Some h) = if same_tag h.tag named then amount kind h.bytes h.calls else 0

-- a reference has a size in its bounds
abbrev pub held_fits : Held → Bool
held_fits held.None = true
held_fits held.Empty = true
held_fits (held.Counted tag size) = nat_lt 0 size && nat_lt size SIZE_END

-- a hand holds fewer than 2^44 bytes, and 1 to 1,024 calls; that of an allocation holds one call
abbrev pub hand_fits : Option Hand → Bool
hand_fits None = true
hand_fits (Some h) = nat_lt h.bytes SIZE_END && (nat_lt 0 h.calls && nat_le h.calls MAX_HAND_CALLS) && (not h.opening || (h.calls == 1))

-- no allocation is between its first step and its last
abbrev pub is_settled : Option Hand → Bool
is_settled None = true
is_settled (Some h) = not h.opening

-- The live list: places with what they hold, no place twice and none that holds nothing. The bytes and the calls under a tag.
abbrev pub live_total : {P : Type 0} → Kind → ℕ → List (P × Held) → ℕ
live_total {P} kind t live = sum_by (λ (entry : P × Held). held_counts kind t entry.1) live
