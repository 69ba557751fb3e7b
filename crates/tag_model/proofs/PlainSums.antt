-- The sum law in words and counts by their kinds.
use Rattle.std.proofs.Common.{◌≡◌, ℕ, ◌*◌, ◌%◌, List, sum_by, refl, sym, ap, arith, slice_index, Option, Some, None}
use Rattle.tag_model.specs.declared.shape.Shape.{Shape}
use Rattle.tag_model.specs.declared.state.Hand.{Hand}
use Rattle.tag_model.specs.declared.state.Held.{Held}
use Rattle.tag_model.specs.declared.state.Held.TheVariants as held
use Rattle.tag_model.specs.declared.state.Kind.TheVariants.{Bytes, Calls}
use Rattle.tag_model.specs.declared.state.Part.{Part}
use Rattle.tag_model.specs.declared.state.Part.TheVariants.{Cpu, Place, Modules, NextId}
use Rattle.tag_model.specs.Laws.{Safe}
use Rattle.tag_model.specs.Plainly.{byte_word, bytes_in_hand, bytes_in_place, bytes_under, call_word, calls_in_hand, calls_in_place, calls_under}
use Rattle.tag_model.specs.Reference.{hand_counts, held_counts}
use Rattle.tag_model.specs.WordState.{counted, word_of, word_place}
use Rattle.tag_model.proofs.Bounds.{sum_same}

byte_at : (t : ℕ) → word_place Bytes t ≡ 2 * t
byte_at t = omega arith

byte_words : (t : ℕ) (p : Part) → byte_word t p ≡ word_of Bytes t p
byte_words t (Cpu c) = ap (slice_index c.words) (sym (byte_at t))
byte_words t (Place n h) = refl
byte_words t (Modules l) = refl
byte_words t (NextId id) = refl

call_words : (t : ℕ) (p : Part) → call_word t p ≡ word_of Calls t p
call_words t (Cpu c) = refl
call_words t (Place n h) = refl
call_words t (Modules l) = refl
call_words t (NextId id) = refl

hand_bytes : (t : ℕ) (hand : Option Hand) → bytes_in_hand t hand ≡ hand_counts Bytes t hand
hand_bytes t None = refl
hand_bytes t (Some h) = refl

hand_calls : (t : ℕ) (hand : Option Hand) → calls_in_hand t hand ≡ hand_counts Calls t hand
hand_calls t None = refl
hand_calls t (Some h) = refl

place_bytes : (t : ℕ) (h : Held) → bytes_in_place t h ≡ held_counts Bytes t h
place_bytes t held.None = refl
place_bytes t held.Empty = refl
place_bytes t (held.Counted tag size) = refl

place_calls : (t : ℕ) (h : Held) → calls_in_place t h ≡ held_counts Calls t h
place_calls t held.None = refl
place_calls t held.Empty = refl
place_calls t (held.Counted tag size) = refl

bytes : (t : ℕ) (p : Part) → bytes_under t p ≡ counted Bytes t p
bytes t (Cpu c) = hand_bytes t c.hand
bytes t (Place n h) = place_bytes t h
bytes t (Modules l) = refl
bytes t (NextId id) = refl

calls : (t : ℕ) (p : Part) → calls_under t p ≡ counted Calls t p
calls t (Cpu c) = hand_calls t c.hand
calls t (Place n h) = place_calls t h
calls t (Modules l) = refl
calls t (NextId id) = refl

pub plain_bytes : (k : Shape) (ps : List Part) (t : ℕ) → Safe k ps → sum_by (byte_word t) ps % 18446744073709551616 ≡ sum_by (bytes_under t) ps % 18446744073709551616
plain_bytes k ps t safe = rw (sum_same (byte_word t) (word_of Bytes t) ps (byte_words t), sum_same (bytes_under t) (counted Bytes t) ps (bytes t)) (safe.sums.sums Bytes t)

pub plain_calls : (k : Shape) (ps : List Part) (t : ℕ) → Safe k ps → sum_by (call_word t) ps % 18446744073709551616 ≡ sum_by (calls_under t) ps % 18446744073709551616
plain_calls k ps t safe = rw (sum_same (call_word t) (word_of Calls t) ps (call_words t), sum_same (calls_under t) (counted Calls t) ps (calls t)) (safe.sums.sums Calls t)
