-- What holds of the machine of a checked trace: everything that is given is somebody's, once.
use Rattle.std.specs.Prelude.{ℕ, ◌≡◌, ◌+◌, ◌<◌, ◌==◌, ◌&&◌, Bool, false, not, nat_lt, List, length, sum_by, count_by}
use Rattle.tag_model.specs.declared.state.Held.{Held}
use Rattle.tag_model.specs.Index.{Slot, Word, Page, Object}
use Rattle.tag_model.specs.Laws.{same_kind}
use Rattle.slab_cache.specs.Storage.{Storage, home_of}
use Rattle.trace_play.specs.Live.{Content, Nothing, Stored, Live}
use Rattle.trace_play.specs.Worker.{Seat}
use Rattle.trace_play.specs.Machine.{Machine, seat_at, live_cells}
use Rattle.trace_play.specs.Owned.{one_if, NodeSound}

-- ---- sums over storage

abbrev pub content_weight : (Storage → ℕ) → Content → ℕ
content_weight weight (Nothing order) = 0
content_weight weight (Stored given) = weight given

abbrev pub live_sum : (Storage → ℕ) → Live → ℕ
live_sum weight live = sum_by (λ (entry : ℕ × Content). content_weight weight entry.1) live

-- what is on its way home
abbrev pub returning_sum : (Storage → ℕ) → List Seat → ℕ
returning_sum weight seats = sum_by (λ (seat : Seat). sum_by weight seat.returning) seats

-- of all storage that is given
abbrev pub storage_sum : Machine → (Storage → ℕ) → ℕ
storage_sum m weight = live_sum weight m.live + returning_sum weight m.seats

-- of no CPU
abbrev pub is_away : ℕ → Storage → ℕ
is_away count given = one_if (not (nat_lt (home_of given) count))

-- ---- the machine

-- each seat is its CPU's, each node is sound, and no storage is of no CPU
pub record IsSound (m : Machine) : Type 0 where
  pub cpus : (cpu : ℕ) → cpu < length m.seats → (seat_at cpu m).node.node.cpu ≡ cpu
  pub nodes : (cpu : ℕ) → cpu < length m.seats → NodeSound (seat_at cpu m).node (storage_sum m)
  pub homes : storage_sum m (is_away (length m.seats)) ≡ 0

-- ---- cells

abbrev pub same_slot : Slot → Slot → Bool
same_slot (Page a f) (Page b g) = (a == b) && (f == g)
same_slot (Object a v p) (Object b w q) = (a == b) && ((v == w) && (p == q))
same_slot (Word a kind t) (Word b kind' u) = (a == b) && (same_kind kind kind' && (t == u))
same_slot _ _ = false

-- how many references of the machine are in a slot of the table
abbrev pub references_in : Slot → Machine → ℕ
references_in slot m = count_by (λ (entry : Slot × Held). same_slot slot entry.0) (live_cells m)
