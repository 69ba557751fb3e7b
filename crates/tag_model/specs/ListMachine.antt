-- The list machine: a plain list of live references, and what each op makes of it. It has no word, no CPU and no hand.
use Rattle.std.specs.Prelude.{◌≡◌, ◌≢◌, ℕ, ◌+◌, ◌%◌, ◌<◌, ◌==◌, not, Bool, true, false, IsTrue, List, [], ◌∷◌, length, fold, unwrap_or}
use Rattle.std.specs.List.{list_any}
use Rattle.std.specs.Ordering.{nat_cmp}
use Rattle.std.specs.FinMap.Entries.{put, find, where_key, is_sorted}
use Rattle.tag_model.specs.declared.state.Tag.{Tag}
use Rattle.tag_model.specs.declared.state.Held.{Held}
use Rattle.tag_model.specs.declared.state.Held.TheVariants as held
use Rattle.tag_model.specs.Moves.{Move}
use Rattle.tag_model.specs.RefMoves.{part_of, trimmed, open_moves, close_moves, split_moves, trim_moves}

-- ---- a live list: places with what they hold, by rising place, so that none stands twice

abbrev pub Live : Type 0
Live = List (ℕ × Held)

abbrev pub in_order : Live → Bool
in_order live = is_sorted nat_cmp live

-- what a place holds
abbrev pub held_at : ℕ → Live → Held
held_at place live = unwrap_or (find nat_cmp place live) held.None

abbrev pub without : ℕ → Live → Live
without place live = where_key nat_cmp (λ other. not (other == place)) live

-- the list once a place holds this: a place that holds nothing isn't on it
abbrev pub with_held : ℕ → Held → Live → Live
with_held place held.None live = without place live
with_held place held.Empty live = put nat_cmp place held.Empty live
with_held place (held.Counted tag size) live = put nat_cmp place (held.Counted tag size) live

-- the list once each of these places holds this
abbrev pub with_each : List ℕ → Held → Live → Live
with_each places h live = fold (λ (so_far : Live) (place : ℕ). with_held place h so_far) live places

-- ---- the ops

pub data RefOp : Type 0 where
  -- an allocation, counted under a tag or marked as not counted
  Open : (place : ℕ) (tag : Tag) (size : ℕ) → RefOp
  Mark : (place : ℕ) → RefOp
  Close : (place : ℕ) → RefOp
  -- the first part stays in its place, the others go to these
  Split : (place : ℕ) (others : List ℕ) → RefOp
  Swap : (one two : ℕ) → RefOp
  Trim : (place bytes : ℕ) → RefOp

abbrev pub parts_of : List ℕ → ℕ
parts_of others = length others + 1

abbrev pub done : RefOp → Live → Live
done (Open place tag size) live = with_held place (held.Counted tag size) live
done (Mark place) live = with_held place held.Empty live
done (Close place) live = without place live
done (Split place others) live = with_each (place ∷ others) (part_of (parts_of others) (held_at place live)) live
done (Swap one two) live = with_held one (held_at two live) (with_held two (held_at one live) live)
done (Trim place bytes) live = with_held place (trimmed bytes (held_at place live)) live

-- some ops, one after the other
abbrev pub done_all : List RefOp → Live → Live
done_all ops live = fold (λ (so_far : Live) (op : RefOp). done op so_far) live ops

-- the moves of the CPU that does it
abbrev pub op_moves : ℕ → RefOp → Live → List Move
op_moves cpu (Open place tag size) live = open_moves cpu (held.Counted tag size)
op_moves cpu (Mark place) live = []
op_moves cpu (Close place) live = close_moves cpu (held_at place live)
op_moves cpu (Split place others) live = split_moves cpu (parts_of others) (held_at place live)
op_moves cpu (Swap one two) live = []
op_moves cpu (Trim place bytes) live = trim_moves cpu bytes (held_at place live)

-- ---- when an op may be done

-- none of the places holds anything, none is this one, and none stands twice
abbrev pub AreNew : List ℕ → ℕ → Live → Type 0
AreNew [] place live = Unit {0}
AreNew (other ∷ others) place live = (held_at other live ≡ held.None) × (other ≢ place) × (list_any (λ p. p == other) others ≡ false) × AreNew others place live

-- so many equal parts make the whole
abbrev pub is_even : ℕ → Held → Bool
is_even parts held.None = false
is_even parts held.Empty = true
is_even parts (held.Counted tag size) = size % parts == 0

-- so many bytes less leave some
abbrev pub LeavesSome : ℕ → Held → Type 0
LeavesSome bytes held.None = ⊥
LeavesSome bytes held.Empty = Unit {0}
LeavesSome bytes (held.Counted tag size) = bytes < size

abbrev pub MayDo : RefOp → Live → Type 0
MayDo (Open place tag size) live = (held_at place live ≡ held.None) × (0 < size)
MayDo (Mark place) live = held_at place live ≡ held.None
MayDo (Close place) live = held_at place live ≢ held.None
MayDo (Split place others) live = AreNew others place live × IsTrue (is_even (parts_of others) (held_at place live))
MayDo (Swap one two) live = (held_at one live ≢ held.None) × (held_at two live ≢ held.None)
MayDo (Trim place bytes) live = LeavesSome bytes (held_at place live)
