-- A CPU of a round by itself: the keys that its ops name, what its worker begins with, and what it gives back.
use Rattle.std.specs.Prelude.{ℕ, ◌≡◌, ◌≢◌, ◌+◌, ◌-◌, ◌&&◌, Bool, true, false, not, List, [], ◌∷◌, ◌++◌, fold, length, sum_by}
use Rattle.std.specs.List.{list_all, range_with_len}
use Rattle.std.specs.Ordering.{nat_cmp}
use Rattle.std.specs.FinMap.Entries as entries
use Rattle.tag_model.specs.Moves.{Move}
use Rattle.module_area.specs.declared.entry.Entry.{Entry}
use Rattle.trace.specs.declared.traces.OnOp.{OnOp}
use Rattle.trace.specs.declared.traces.TraceOp.{TraceOp}
use Rattle.trace.specs.declared.traces.TraceOp.TheVariants as op
use Rattle.split_swap.specs.Parts.{parts_in}
use Rattle.trace_play.specs.Live.{Live, content_at, put, order_of}
use Rattle.trace_play.specs.Worker.{Tally, WorkerState, done, all_done}
use Rattle.trace_play.specs.Machine.{Machine, nothing_done, worker_at, with_worker}
use Rattle.trace_play.specs.Barrier.{ops_of}

-- ---- keys

-- whether the keys rise strictly: none stands twice
abbrev pub rises : Live → Bool
rises = entries.is_sorted nat_cmp

-- the entries whose keys pass a test
abbrev pub kept : (ℕ → Bool) → Live → Live
kept = entries.where_key nat_cmp

-- the keys that an op names; a split names its new keys too
abbrev pub named_by : Live → TraceOp → List ℕ
named_by live (op.Page key order) = key ∷ []
named_by live (op.Kmalloc key size) = key ∷ []
named_by live (op.Free key) = key ∷ []
named_by live (op.Split key order first) = key ∷ range_with_len first (parts_in order (order_of (content_at key live)) - 1)
named_by live (op.Swap one two) = one ∷ two ∷ []
named_by live (op.Trim key pages) = key ∷ []
named_by live (op.Hook section index) = []
named_by live op.Unhook = []
named_by live (op.Enter section) = []
named_by live (op.Leave section) = []
named_by live (op.Unload section) = []

-- whether each op, when its turn comes, names such keys alone
abbrev pub names_only : (ℕ → Bool) → List Entry → List TraceOp → WorkerState → Bool
names_only mine entries [] w = true
names_only mine entries (op ∷ ops) w = list_all mine (named_by w.live op) && names_only mine entries ops (done entries op w)

-- ---- a worker

-- what the worker that has these keys begins with: the CPU's seat, its own keys of the live list, and nothing done
abbrev pub alone : (ℕ → Bool) → WorkerState → WorkerState
alone mine w = record { seat = w.seat; live = kept mine w.live; tally = nothing_done }

-- what was done before and what was done then
abbrev pub joined : Tally → Tally → Tally
joined before now = record { moves = before.moves ++ now.moves; failed = before.failed + now.failed; uncounted = before.uncounted + now.uncounted }

-- a live list with all entries of another put in
abbrev pub put_all : Live → Live → Live
put_all into entries = fold (λ into entry. put entry.0 entry.1 into) into entries

abbrev pub others : (ℕ → Bool) → ℕ → Bool
others mine key = not (mine key)

-- what the worker gives back: its seat, its entries among those of the other keys, and what it did behind what was done
abbrev pub rejoined : (ℕ → Bool) → WorkerState → WorkerState → WorkerState
rejoined mine w worker = record { seat = worker.seat; live = put_all (kept (others mine) w.live) worker.live; tally = joined w.tally worker.tally }

-- ---- all CPUs of a round

-- the work of a CPU whose worker has its own keys as the round begins
abbrev pub worker_done : (ℕ → ℕ → Bool) → List OnOp → Machine → ℕ → WorkerState
worker_done own ops m cpu = all_done m.area.entries (ops_of cpu ops) (alone (own cpu) (worker_at cpu m))

abbrev pub given_back : (ℕ → ℕ → Bool) → List OnOp → Machine → Machine → ℕ → Machine
given_back own ops m now cpu = with_worker cpu (rejoined (own cpu) (worker_at cpu now) (worker_done own ops m cpu)) now

-- each CPU's worker begins with what stands as the round begins; behind it all give back what they have
abbrev pub side_by_side : (ℕ → ℕ → Bool) → List OnOp → Machine → Machine
side_by_side own ops m = fold (given_back own ops m) m (range_with_len 0 (length m.seats))

-- ---- which keys are whose

-- no key is of both
abbrev pub AreApart : (ℕ → Bool) → (ℕ → Bool) → Type 0
AreApart mine yours = (key : ℕ) → mine key ≡ true → yours key ≡ false

-- no two CPUs share a key
abbrev pub NoneShared : (ℕ → ℕ → Bool) → Type 0
NoneShared own = (one two : ℕ) → one ≢ two → AreApart (own one) (own two)

-- the ops of a CPU name its own keys alone
abbrev pub NamesItsOwn : (ℕ → Bool) → List OnOp → Machine → ℕ → Type 0
NamesItsOwn mine ops m cpu = names_only mine m.area.entries (ops_of cpu ops) (worker_at cpu m) ≡ true

-- the same but for the order of what was done: all sums over the moves are the same
pub record SameButOrder (a b : Machine) : Type 0 where
  pub seats : a.seats ≡ b.seats
  pub live : a.live ≡ b.live
  pub area : a.area ≡ b.area
  pub last_id : a.last_id ≡ b.last_id
  pub failed : a.tally.failed ≡ b.tally.failed
  pub uncounted : a.tally.uncounted ≡ b.tally.uncounted
  pub moves : (weight : Move → ℕ) → sum_by weight a.tally.moves ≡ sum_by weight b.tally.moves
