-- What was counted under each tag, and what is live under it.
use Rattle.std.specs.Prelude.{ℕ, ◌≡◌, ◌+◌, length, sum_by}
use Rattle.std.specs.List.{range_with_len}
use Rattle.tag_model.specs.declared.state.Kind.{Kind}
use Rattle.tag_model.specs.declared.state.Kind.TheVariants.{Bytes, Calls}
use Rattle.tag_model.specs.Wrap.{wrap}
use Rattle.tag_model.specs.Moves.{moved_word}
use Rattle.tag_model.specs.RefMoves.{all_up, all_down}
use Rattle.tag_model.specs.Reference.{live_total}
use Rattle.allocinfo.specs.declared.rows.Row.{Row}
use Rattle.trace_play.specs.Machine.{Machine, live_cells}

-- under each tag what was added is what was taken away and what is live
abbrev pub IsAccounted : Machine → Type 0
IsAccounted m = (kind : Kind) (tag : ℕ) → all_up kind tag m.tally.moves ≡ all_down kind tag m.tally.moves + live_total kind tag (live_cells m)

-- the words of all CPUs for a tag, added
abbrev pub words_total : Machine → Kind → ℕ → ℕ
words_total m kind tag = sum_by (λ cpu. moved_word m.tally.moves cpu kind tag) (range_with_len 0 (length m.seats))

-- a row has the bytes and the number of the references under a tag, which are the words of all CPUs, added
pub record TellsLive (m : Machine) (tag : ℕ) (row : Row) : Type 0 where
  pub bytes : row.bytes ≡ wrap (live_total Bytes tag (live_cells m))
  pub calls : row.calls ≡ wrap (live_total Calls tag (live_cells m))
  pub byte_words : row.bytes ≡ wrap (words_total m Bytes tag)
  pub call_words : row.calls ≡ wrap (words_total m Calls tag)
