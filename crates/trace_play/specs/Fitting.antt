-- What a CPU needs for its ops, each when its turn comes: numbers in their ranges, keys that have what the op wants, hooks, and storage that its node has.
use Rattle.std.specs.Prelude.{ℕ, ◌≡◌, ◌≢◌, ◌+◌, ◌^◌, ◌<◌, ◌≤◌, ⊤, Bool, true, IsTrue, Option, Some, None, List, [], ◌∷◌, length, slice_get}
use Rattle.tag_model.specs.declared.state.Tag.{Tag}
use Rattle.module_area.specs.declared.entry.Entry.{Entry}
pub use Rattle.slab_cache.specs.Calls.{IsPlace, IsOf}
use Rattle.slab_cache.specs.Storage.{home_of}
use Rattle.trace.specs.declared.traces.TraceOp.{TraceOp}
use Rattle.trace.specs.declared.traces.TraceOp.TheVariants as op
use Rattle.trace_play.specs.Live.{Content, Nothing, Stored, content_at}
use Rattle.trace_play.specs.Worker.{WorkerState, cpu_of, done, tag_in}
use Rattle.trace_play.specs.Fits.{OpFits}

-- each op has what it needs when its turn comes
abbrev pub Each : (TraceOp → WorkerState → Type 0) → List Entry → List TraceOp → WorkerState → Type 0
Each Needs entries [] w = ⊤
Each Needs entries (op ∷ ops) w = Needs op w × Each Needs entries ops (done entries op w)

-- ---- numbers

abbrev pub IsInRange : TraceOp → Type 0
IsInRange (op.Page key order) = order ≤ 10
IsInRange (op.Kmalloc key size) = (0 < size) × (size ≤ 4194304)
IsInRange (op.Free key) = ⊤
IsInRange (op.Split key order first) = ⊤
IsInRange (op.Swap one two) = one ≢ two
IsInRange (op.Trim key pages) = 0 < pages
IsInRange (op.Hook section index) = ⊤
IsInRange op.Unhook = ⊤
IsInRange (op.Enter section) = ⊤
IsInRange (op.Leave section) = ⊤
IsInRange (op.Unload section) = ⊤

-- ---- hooks

-- fewer than 16 are out, and the CPU may count under the tag; one is out
abbrev pub HookFits : (Tag → Bool) → List Entry → TraceOp → WorkerState → Type 0
HookFits may_count entries (op.Page key order) w = ⊤
HookFits may_count entries (op.Kmalloc key size) w = ⊤
HookFits may_count entries (op.Free key) w = ⊤
HookFits may_count entries (op.Split key order first) w = ⊤
HookFits may_count entries (op.Swap one two) w = ⊤
HookFits may_count entries (op.Trim key pages) w = ⊤
HookFits may_count entries (op.Hook section index) w = (length w.seat.hooks < 16) × IsTrue (may_count (tag_in entries section index))
HookFits may_count entries op.Unhook w = 0 < length w.seat.hooks
HookFits may_count entries (op.Enter section) w = ⊤
HookFits may_count entries (op.Leave section) w = ⊤
HookFits may_count entries (op.Unload section) w = ⊤

-- ---- storage of the CPU's own node

abbrev pub IsThere : Content → WorkerState → Type 0
IsThere (Nothing order) w = ⊤
IsThere (Stored given) w = home_of given ≡ cpu_of w → IsOf w.seat.node given

-- what is freed at home is there
abbrev pub FreeFits : TraceOp → WorkerState → Type 0
FreeFits (op.Page key order) w = ⊤
FreeFits (op.Kmalloc key size) w = ⊤
FreeFits (op.Free key) w = IsThere (content_at key w.live) w
FreeFits (op.Split key order first) w = ⊤
FreeFits (op.Swap one two) w = ⊤
FreeFits (op.Trim key pages) w = ⊤
FreeFits (op.Hook section index) w = ⊤
FreeFits op.Unhook w = ⊤
FreeFits (op.Enter section) w = ⊤
FreeFits (op.Leave section) w = ⊤
FreeFits (op.Unload section) w = ⊤

-- ---- all of it

pub record OpNeeds (may_count : Tag → Bool) (entries : List Entry) (op : TraceOp) (w : WorkerState) : Type 0 where
  pub range : IsInRange op
  pub keys : OpFits op w.live
  pub hooks : HookFits may_count entries op w
  pub own : FreeFits op w

-- the ops of a CPU, which may count under such tags
abbrev pub Fit : (Tag → Bool) → List Entry → List TraceOp → WorkerState → Type 0
Fit may_count entries = Each (OpNeeds may_count entries) entries
