-- How the ops of a checked trace find their keys, and that the check's table and the live list agree.
use Rattle.std.specs.Prelude.{ℕ, ◌≡◌, ◌+◌, ◌-◌, ◌*◌, ◌^◌, ◌<◌, ◌≤◌, ◌==◌, ◌&&◌, Bool, true, false, List, [], ◌∷◌, Option, Some, None, Ok, IsSome, ⊤}
use Rattle.std.specs.Ordering.{nat_cmp}
use Rattle.std.specs.FinMap.Entries as entries
use Rattle.tag_model.specs.declared.state.Held.{Held}
use Rattle.tag_model.specs.declared.state.Held.TheVariants as held
use Rattle.module_area.specs.declared.entry.Entry.{Entry}
use Rattle.page_ext.specs.Blocks.{page_bytes}
use Rattle.slab_cache.specs.Storage.{Pages, Object, Uncounted}
use Rattle.trace.specs.declared.traces.OnOp.{OnOp}
use Rattle.trace.specs.declared.traces.TraceOp.{TraceOp}
use Rattle.trace.specs.declared.traces.TraceOp.TheVariants as op
use Rattle.round_check.specs.declared.keys.Block.{Block}
use Rattle.round_check.specs.declared.keys.Bound.{Bound}
use Rattle.round_check.specs.declared.keys.Bound.TheVariants as kept
use Rattle.round_check.specs.declared.keys.KeyState.{KeyState}
use Rattle.round_check.specs.declared.walk.Walk.{Walk}
use Rattle.round_check.specs.Keys.{key_at}
use Rattle.split_swap.specs.Parts.{parts_in}
use Rattle.trace_play.specs.Live.{Content, Nothing, Stored, Live}
use Rattle.round_check.specs.Walk.{walk_ops}
use Rattle.trace_play.specs.Worker.{WorkerState, done}
use Rattle.trace_play.specs.Machine.{Machine, worker_at}
use Rattle.trace_play.specs.Barrier.{ops_of, cpus_done}
use Rattle.trace_play.specs.Alone.{alone, NamesItsOwn, NoneShared}

-- ---- what a key has

abbrev pub entry_at : ℕ → Live → Option Content
entry_at key live = entries.find nat_cmp key live

abbrev pub IsUnbound : ℕ → Live → Type 0
IsUnbound key live = entry_at key live ≡ None

-- the empty mark, or a reference of so many bytes
abbrev pub HasBytes : ℕ → Held → Type 0
HasBytes bytes held.None = ⊥
HasBytes bytes held.Empty = ⊤
HasBytes bytes (held.Counted tag size) = size ≡ bytes

-- a block of an order that counts so many bytes if any, or nothing where such a block was asked for
abbrev pub IsBlockOf : ℕ → ℕ → Content → Type 0
IsBlockOf order bytes (Nothing whole) = whole ≡ order
IsBlockOf order bytes (Stored (Pages block)) = (block.order ≡ order) × HasBytes bytes block.holds
IsBlockOf order bytes (Stored (Object home frame place vector holds)) = ⊥
IsBlockOf order bytes (Stored (Uncounted home frame place)) = ⊥

-- the key is bound to such a block
pub record HasBlock (key order bytes : ℕ) (live : Live) : Type 0 where
  pub content : Content
  pub found : entry_at key live ≡ Some content
  pub is : IsBlockOf order bytes content

-- ---- what an op needs

-- a whole block of an order above, and new keys that are keys and unbound
pub record SplitFits (key order first : ℕ) (live : Live) : Type 0 where
  pub whole : ℕ
  pub above : order < whole
  pub block : HasBlock key whole (page_bytes whole) live
  pub keys : first + (parts_in order whole - 1) ≤ 65536
  pub unbound : (new : ℕ) → first ≤ new → new < first + (parts_in order whole - 1) → IsUnbound new live

-- two whole blocks of one order
pub record SwapFits (one two : ℕ) (live : Live) : Type 0 where
  pub order : ℕ
  pub first : HasBlock one order (page_bytes order) live
  pub second : HasBlock two order (page_bytes order) live

-- a block that counts more bytes, if any
pub record TrimFits (key bytes : ℕ) (live : Live) : Type 0 where
  pub order : ℕ
  pub left : ℕ
  pub block : HasBlock key order left live
  pub more : bytes < left

abbrev pub OpFits : TraceOp → Live → Type 0
OpFits (op.Page key order) live = IsUnbound key live
OpFits (op.Kmalloc key size) live = IsUnbound key live
OpFits (op.Free key) live = IsSome (entry_at key live)
OpFits (op.Split key order first) live = SplitFits key order first live
OpFits (op.Swap one two) live = SwapFits one two live
OpFits (op.Trim key pages) live = TrimFits key (pages * 4096) live
OpFits (op.Hook section index) live = ⊤
OpFits op.Unhook live = ⊤
OpFits (op.Enter section) live = ⊤
OpFits (op.Leave section) live = ⊤
OpFits (op.Unload section) live = ⊤

-- each op fits when its turn comes
abbrev pub AllFit : List Entry → List TraceOp → WorkerState → Type 0
AllFit entries [] w = ⊤
AllFit entries (op ∷ ops) w = OpFits op w.live × AllFit entries ops (done entries op w)

-- ---- the table of the check

-- a block of the table, and what its key has: so many pages are left of it, all where it wasn't trimmed
pub record IsBlockAs (block : Block) (content : Content) : Type 0 where
  pub is : IsBlockOf block.order (4096 * block.pages) content
  pub whole : block.trimmed ≡ false → block.pages ≡ 2 ^ block.order

abbrev pub IsBoundAs : Option Bound → Option Content → Type 0
IsBoundAs None None = ⊤
IsBoundAs None (Some content) = ⊥
IsBoundAs (Some bound) None = ⊥
IsBoundAs (Some kept.Object) (Some content) = ⊤
IsBoundAs (Some (kept.Block block)) (Some content) = IsBlockAs block content

-- the table and the live list agree at each key that passes
abbrev pub AgreeAt : (ℕ → Bool) → List KeyState → Live → Type 0
AgreeAt mine keys live = (key : ℕ) → mine key ≡ true → IsBoundAs (key_at keys key).bound (entry_at key live)

-- and at every key
abbrev pub Agree : List KeyState → Live → Type 0
Agree keys live = (key : ℕ) → IsBoundAs (key_at keys key).bound (entry_at key live)

-- whether a line of the CPU was the last to name the key, in the round that left this
abbrev pub is_owner : Walk → ℕ → ℕ → Bool
is_owner walk cpu key = ((key_at walk.keys key).round == walk.round) && ((key_at walk.keys key).cpu == cpu)

-- What a round of a checked trace is, where the table and the live list agree as it begins: by the table that the round
-- leaves, no two CPUs own a key, each names its own keys alone, and each op of a CPU that has its own keys alone fits.
-- Behind the ops the table and the live list agree again.
pub record RoundFits (ops : List OnOp) (before : Walk) (m : Machine) : Type 0 where
  pub after : Walk
  pub walked : walk_ops ops before ≡ Ok after
  pub apart : NoneShared (is_owner after)
  pub names : (cpu : ℕ) → NamesItsOwn (is_owner after cpu) ops m cpu
  pub fits : (cpu : ℕ) → AllFit m.area.entries (ops_of cpu ops) (alone (is_owner after cpu) (worker_at cpu m))
  pub agree : Agree after.keys (cpus_done ops m).live
