-- What the keys are bound to, and what it is in the meaning.
use Rattle.std.specs.Prelude.{ℕ, ◌+◌, ◌-◌, ◌≡◌, ◌==◌, ◌≢◌, ◌≤◌, false, List, [], ◌∷◌, map, ◌<◌, if◌then◌else◌}
use Rattle.std.specs.FinMap.Entries.{put}
use Rattle.std.specs.List.{IsDistinct}
use Rattle.std.specs.Map.{keys_of}
use Rattle.std.specs.Ordering.{nat_cmp}
use Rattle.tag_model.specs.declared.state.Held.TheVariants as held
use Rattle.tag_rule.specs.Shown.{Board}
use Rattle.page_ext.specs.Blocks.{page_bytes}
use Rattle.page_ext.specs.Shown.{Fits, block_of}
use Rattle.slab_cache.specs.Storage.{Pages}
use Rattle.split_swap.specs.Parts.{parts_in}
use Rattle.trace_play.specs.Live as live
use Rattle.trace_play.specs.Live.{Content, Stored, Live, held_of, is_nothing, with_held}
use Rattle.trace_play.specs.Fits.{IsBlockOf}
use Rattle.round_worker.specs.declared.keys.Kept.{Kept}
use Rattle.round_worker.specs.declared.keys.Kept.TheVariants.{Nothing, Block, Object}
use Rattle.slab_cache.specs.declared.object.Stored as slab
use Rattle.slab_cache.specs.Shown.{IsLive, IsOfTable, Suits, cell_of, is_block, storage_of}

-- by rising key
abbrev pub KeyList : Type 0
KeyList = List (ℕ × Kept)

-- entries put in order, by rising key
abbrev pub by_key : {X : Type 0} → List (ℕ × X) → List (ℕ × X)
by_key [] = []
by_key (entry ∷ entries) = put nat_cmp entry.0 entry.1 (by_key entries)

-- the entries of the keys, each once, in whatever order
pub record AreEntriesOf (keys : KeyList) (entries : KeyList) : Type 0 where
  pub all : by_key entries ≡ keys
  pub once : IsDistinct (λ (one other : ℕ). one == other) (keys_of entries)

abbrev pub content_of : Kept → Content
content_of (Nothing order) = live.Nothing order
content_of (Block block) = Stored (Pages (block_of block))
content_of (Object obj) = Stored (storage_of obj.stored)

abbrev pub live_of : KeyList → Live
live_of keys = map (λ (entry : ℕ × Kept). (entry.0, content_of entry.1)) keys

-- an object's cells are its own, of the table, and hold something
abbrev pub IsKeptObject : Board → slab.Stored → Type 0
IsKeptObject board stored = IsOfTable board (cell_of stored) × Suits stored × IsLive (cell_of stored)

-- the same of what a key is bound to; an object is in a slab
abbrev pub IsKept : Board → Kept → Type 0
IsKept board (Nothing order) = order ≤ 10
IsKept board (Block block) = (block.cell.board ≡ board) × Fits block × (block.cell.held ≢ held.None)
IsKept board (Object obj) = IsKeptObject board obj.stored × (is_block obj.stored ≡ false)

-- ---- what a trim and an exchange need and make

-- a block that counts more bytes, if any, or nothing
pub record MayTrim (bytes : ℕ) (content : Content) : Type 0 where
  pub order : ℕ
  pub left : ℕ
  pub is : IsBlockOf order left content
  pub more : bytes < left

-- a whole block of an order above, or nothing of such an order; its parts have keys
pub record MaySplit (order first : ℕ) (content : Content) : Type 0 where
  pub whole : ℕ
  pub above : order < whole
  pub is : IsBlockOf whole (page_bytes whole) content
  pub few : first + (parts_in order whole - 1) ≤ 65536

-- two whole blocks of one order, or nothing
pub record MaySwap (one two : Content) : Type 0 where
  pub order : ℕ
  pub first : IsBlockOf order (page_bytes order) one
  pub second : IsBlockOf order (page_bytes order) two

-- with the other's reference, unless one of them is nothing
abbrev pub exchanged : Content → Content → Content
exchanged content other = if is_nothing content then content else (if is_nothing other then content else with_held (λ _. held_of other) content)
