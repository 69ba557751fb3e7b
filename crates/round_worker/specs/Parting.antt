-- Keys that are bound to parts.
use Rattle.std.specs.Prelude.{ℕ, ◌≡◌, ◌+◌, Some, List, [], ◌∷◌, map}
use Rattle.std.specs.Ordering.{nat_cmp}
use Rattle.std.specs.FinMap.Entries.{find, put}
use Rattle.tag_rule.specs.Shown.{Board}
use Rattle.page_ext.specs.Shown.{BlockShown}
use Rattle.std.specs.List.{range_with_len}
use Rattle.split_swap.specs.Parts.{part_shown, parts_in}
use Rattle.trace_play.specs.Live.{order_of, part_key}
use Rattle.round_worker.specs.declared.keys.Kept.{Kept}
use Rattle.round_worker.specs.declared.keys.Kept.TheVariants.{Nothing, Block, Object}
use Rattle.round_worker.specs.Kept.{IsKept, KeyList, content_of}

-- each key is bound to what is its own
abbrev pub AreKept : Board → KeyList → Type 0
AreKept board keys = (key : ℕ) (kept : Kept) → find nat_cmp key keys ≡ Some kept → IsKept board kept

abbrev pub blocks : List BlockShown → List Kept
blocks parts = map Block parts

-- the parts from a place on are put, one after the other
abbrev pub with_parts : ℕ → ℕ → List Kept → ℕ → KeyList → KeyList
with_parts key first [] place keys = keys
with_parts key first (kept ∷ parts) place keys = with_parts key first parts (place + 1) (put nat_cmp (part_key key first place) kept keys)

-- the parts of what a key has, by rising frame
abbrev pub kept_part : ℕ → Kept → ℕ → Kept
kept_part order (Nothing whole) place = Nothing order
kept_part order (Block block) place = Block (part_shown order place block)
kept_part order (Object obj) place = Object obj

abbrev pub kept_parts : ℕ → Kept → List Kept
kept_parts order kept = map (kept_part order kept) (range_with_len 0 (parts_in order (order_of (content_of kept))))
