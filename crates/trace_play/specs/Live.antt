-- The live list: what each bound key has, by rising key.
use Rattle.std.specs.Prelude.{ℕ, ◌+◌, ◌-◌, ◌==◌, Bool, true, false, not, List, fold, unwrap_or, if◌then◌else◌}
use Rattle.std.specs.List.{range_with_len}
use Rattle.std.specs.Ordering.{nat_cmp}
use Rattle.std.specs.FinMap.Entries as entries
use Rattle.tag_model.specs.declared.state.Held.{Held}
use Rattle.tag_model.specs.declared.state.Held.TheVariants as held
use Rattle.tag_model.specs.RefMoves.{trimmed}
use Rattle.split_swap.specs.Parts.{part_at, parts_in}
use Rattle.slab_cache.specs.Storage as storage
use Rattle.slab_cache.specs.Storage.{Storage, Pages, Object, Uncounted}

-- what a key is bound to: storage, or nothing where its allocation found no frames, which has the order that was asked for
pub data Content : Type 0 where
  Nothing : (order : ℕ) → Content
  Stored : (given : Storage) → Content

abbrev pub Live : Type 0
Live = List (ℕ × Content)

abbrev pub content_at : ℕ → Live → Content
content_at key live = unwrap_or (entries.find nat_cmp key live) (Nothing 0)

abbrev pub put : ℕ → Content → Live → Live
put = entries.put nat_cmp

abbrev pub without : ℕ → Live → Live
without key = entries.where_key nat_cmp (λ other. not (other == key))

-- ---- one key's content

abbrev pub held_of : Content → Held
held_of (Nothing order) = held.None
held_of (Stored given) = storage.held_of given

abbrev pub order_of : Content → ℕ
order_of (Nothing order) = order
order_of (Stored (Pages block)) = block.order
order_of (Stored (Object home frame place vector holds)) = 0
order_of (Stored (Uncounted home frame place)) = 0

-- a block with what its cell holds changed
abbrev pub with_held : (Held → Held) → Content → Content
with_held change (Nothing order) = Nothing order
with_held change (Stored (Pages block)) = Stored (Pages (record block { holds = change block.holds }))
with_held change (Stored (Object home frame place vector holds)) = Stored (Object home frame place vector holds)
with_held change (Stored (Uncounted home frame place)) = Stored (Uncounted home frame place)

abbrev pub is_nothing : Content → Bool
is_nothing (Nothing order) = true
is_nothing (Stored given) = false

-- a part of a block; all parts of nothing are nothing
abbrev pub part_in : ℕ → ℕ → Content → Content
part_in order place (Nothing whole) = Nothing order
part_in order place (Stored (Pages block)) = Stored (Pages (part_at order place block))
part_in order place (Stored (Object home frame part vector holds)) = Stored (Object home frame part vector holds)
part_in order place (Stored (Uncounted home frame part)) = Stored (Uncounted home frame part)

-- ---- split, swap, trim

-- the key of a part: the lowest keeps the old one
abbrev pub part_key : ℕ → ℕ → ℕ → ℕ
part_key key first place = if place == 0 then key else first + place - 1

abbrev pub split_live : ℕ → ℕ → ℕ → Live → Live
split_live key order first live =
    let whole = content_at key live in
    fold (λ parts place. put (part_key key first place) (part_in order place whole) parts) live (range_with_len 0 (parts_in order (order_of whole)))

-- unless one of them is nothing
abbrev pub swap_live : ℕ → ℕ → Live → Live
swap_live one two live =
    let a = content_at one live in
    let b = content_at two live in
    if is_nothing a then live else (if is_nothing b then live else put one (with_held (λ _. held_of b) a) (put two (with_held (λ _. held_of a) b) live))

abbrev pub trim_live : ℕ → ℕ → Live → Live
trim_live key bytes live = put key (with_held (trimmed bytes) (content_at key live)) live
