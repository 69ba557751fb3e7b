-- A reference as a word of 64 bits: 0 for none, 1 for the empty mark, else the size in the high 44 bits and 2 more than the tag's number in the low 20. The word doesn't tell the module.
use Rattle.std.specs.Prelude.{ℕ, ◌+◌, ◌*◌, ◌/◌, ◌%◌, ◌^◌, ◌<◌, ◌==◌, ◌&&◌, ◌||◌, nat_lt, nat_le, Bool, true}
use Rattle.tag_model.specs.declared.state.Held.{Held}
use Rattle.tag_model.specs.declared.state.Held.TheVariants as held
use Rattle.tag_model.specs.declared.ref_word.Ref.{Ref}
use Rattle.tag_model.specs.declared.ref_word.Ref.TheVariants as ref

-- the word of a counted reference
abbrev pub counted_word : ℕ → ℕ → ℕ
counted_word number size = size * 2 ^ 20 + number + 2

-- the word of what a place holds
abbrev pub held_word : Held → ℕ
held_word held.None = 0
held_word held.Empty = 1
held_word (held.Counted tag size) = counted_word tag.number size

-- the word of a reference without its module
abbrev pub ref_word : Ref → ℕ
ref_word ref.None = 0
ref_word ref.Empty = 1
ref_word (ref.Counted number size) = counted_word number size

-- what a place holds, without the module
abbrev pub ref_of : Held → Ref
ref_of held.None = ref.None
ref_of held.Empty = ref.Empty
ref_of (held.Counted tag size) = ref.Counted tag.number size

-- a reference's tag number and size are within their bits
abbrev pub IsRef : Ref → Type 0
IsRef ref.None = Unit {0}
IsRef ref.Empty = Unit {0}
IsRef (ref.Counted number size) = (number + 2 < 2 ^ 20) × (0 < size) × (size < 2 ^ 44)

-- the tag number that a place names is within its bits, as those of a checked shape are
abbrev pub number_fits : Held → Bool
number_fits held.None = true
number_fits held.Empty = true
number_fits (held.Counted tag size) = nat_lt (tag.number + 2) (2 ^ 20)

-- a word of 64 bits is that of some reference: it is 0 or 1, or has a tag in its low 20 bits and a size in its high 44
abbrev pub is_ref_word : ℕ → Bool
is_ref_word word = (word == 0) || (word == 1) || (nat_le 2 (word % 2 ^ 20) && nat_lt 0 (word / 2 ^ 20))
