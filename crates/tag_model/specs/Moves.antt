-- A CPU's words are the sums of what it did itself: its moves, each of which raises or lowers one word.
use Rattle.std.specs.Prelude.{ℕ, ◌==◌, ◌&&◌, if◌then◌else◌, List, sum_by, Bool}
use Rattle.tag_model.specs.declared.state.Kind.{Kind}
use Rattle.tag_model.specs.Wrap.{wrap_minus}
use Rattle.tag_model.specs.Laws.{same_kind}

-- a CPU raised its word of a kind for a tag by one number and lowered it by another
pub record Move : Type 0 where
  pub cpu : ℕ
  pub kind : Kind
  pub tag : ℕ
  pub up : ℕ
  pub down : ℕ

-- the move is on this word
abbrev pub is_on : ℕ → Kind → ℕ → Move → Bool
is_on cpu kind tag move = (move.cpu == cpu) && same_kind kind move.kind && (move.tag == tag)

-- a CPU's word: the sum of its moves, wrapped
abbrev pub moved_word : List Move → ℕ → Kind → ℕ → ℕ
moved_word moves cpu kind tag =
    wrap_minus (sum_by (λ (m : Move). if is_on cpu kind tag m then m.up else 0) moves) (sum_by (λ (m : Move). if is_on cpu kind tag m then m.down else 0) moves)
