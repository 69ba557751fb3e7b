-- Which worker each key of a round goes to.
use Rattle.std.specs.Prelude.{ℕ, ◌+◌, ◌==◌, ◌||◌, Bool, false, List, [], ◌∷◌, Option, Some, None, is_some, option_map}
use Rattle.std.specs.List.{find}
use Rattle.trace.specs.declared.traces.OnOp.{OnOp}
use Rattle.trace.specs.declared.traces.TraceOp.{TraceOp}
use Rattle.trace.specs.declared.traces.TraceOp.TheVariants as op
use Rattle.trace_play.specs.Live.{Live}
use Rattle.round_worker.specs.Shown.{WorkerShown}

-- whether the op names the key outright, as it doesn't a split's new keys
abbrev pub names : TraceOp → ℕ → Bool
names (op.Page key order) other = key == other
names (op.Kmalloc key size) other = key == other
names (op.Free key) other = key == other
names (op.Split key order first) other = key == other
names (op.Swap one two) other = (one == other) || (two == other)
names (op.Trim key pages) other = key == other
names (op.Hook section index) other = false
names op.Unhook other = false
names (op.Enter section) other = false
names (op.Leave section) other = false
names (op.Unload section) other = false

-- the CPU of the first op that names the key
abbrev pub handed_to : List OnOp → ℕ → Option ℕ
handed_to ops key = option_map (λ (on : OnOp). on.cpu) (find (λ (on : OnOp). names on.op key) ops)

abbrev pub is_cpu : ℕ → Option ℕ → Bool
is_cpu cpu None = false
is_cpu cpu (Some other) = other == cpu

-- whether the key goes to the CPU
abbrev pub handed : List OnOp → ℕ → ℕ → Bool
handed ops cpu key = is_cpu cpu (handed_to ops key)

-- whether it goes to any
abbrev pub is_handed : List OnOp → ℕ → Bool
is_handed ops key = is_some (handed_to ops key)

-- ---- workers and their keys

-- with the keys of each one's place
abbrev pub with_lives_from : ℕ → (ℕ → Live) → List WorkerShown → List WorkerShown
with_lives_from place lives [] = []
with_lives_from place lives (w ∷ workers) = record w { live = lives place } ∷ with_lives_from (place + 1) lives workers

abbrev pub with_lives : (ℕ → Live) → List WorkerShown → List WorkerShown
with_lives lives workers = with_lives_from 0 lives workers

abbrev pub without_live : WorkerShown → WorkerShown
without_live w = record w { live = [] }
