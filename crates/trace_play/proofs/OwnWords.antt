-- Each CPU's words behind the ops of a round are those that its own worker's moves make of its words before.
use Rattle.std.proofs.Common.{◌≡◌, ◌≢◌, ℕ, zero, suc, ◌+◌, ◌<◌, ◌≤◌, Bool, true, false, cond, eqb, List, [], ◌∷◌, length, refl, sym, ap, ◌∙◌, arith, eqb-true, eq-eqb, ne_eqb}
use Rattle.std.specs.Prelude.{slice_index, slice_set, fold, Option, Some, None}
use Rattle.std.specs.List.{list_all, range_with_len}
use Rattle.std.proofs.lemmas.Bool.{eqb-false, and_parts}
use Rattle.std.proofs.lemmas.List.Sums.{fold-append}
use Rattle.tag_model.specs.Moves.{Move}
use Rattle.tag_model.specs.WordState.{word_place}
use Rattle.tag_model.specs.Wrap.{wrap_minus}
use Rattle.tag_model.specs.RefMoves.{close_moves, words_after_move, words_after_moves}
use Rattle.module_area.specs.declared.entry.Entry.{Entry}
use Rattle.trace.specs.declared.traces.OnOp.{OnOp}
use Rattle.trace.specs.declared.traces.TraceOp.{TraceOp}
use Rattle.trace.specs.declared.traces.TraceOp.TheVariants as op
use Rattle.round_check.proofs.Named.{by_bool}
use Rattle.slab_cache.specs.Giving.{Given}
use Rattle.slab_cache.specs.Homing.{come_home}
use Rattle.slab_cache.specs.Storage.{Storage, Pages, Object, Uncounted}
use Rattle.trace_play.specs.Live.{Content, Nothing, Stored, content_at, held_of, put, without}
use Rattle.trace_play.specs.Worker.{Tally, WorkerState, all_done, allocated, cpu_of, done, given_back, is_home, one_given, sent_home, with_live, with_moves, with_node, with_taken}
use Rattle.trace_play.specs.Machine.{Machine, seat_at, worker_at}
use Rattle.trace_play.specs.Barrier.{cpus_done, ops_of}
use Rattle.trace_play.specs.Alone.{alone, given_back as machine_given, rises, worker_done, NamesItsOwn, NoneShared}
use Rattle.trace_play.proofs.MovesOf.{AreOf, all_of}
use Rattle.trace_play.proofs.SideBySide.{are_side_by_side}

-- ---- moves of another CPU

others_leave : (cpu other : ℕ) → cpu ≢ other → (words : List ℕ) (moves : List Move) → AreOf (λ c. eqb c other) moves → words_after_moves cpu words moves ≡ words
others_leave cpu other differ words [] a = refl
others_leave cpu other differ words (move ∷ moves) a =
    let both = and_parts (eqb move.cpu other) (list_all (λ (m : Move). eqb m.cpu other) moves) a in
    let not_its : eqb move.cpu cpu ≡ false = ne_eqb move.cpu cpu (λ e. differ (sym e ∙ eqb-true move.cpu other both.0)) in
    let stays : words_after_move cpu words move ≡ words = ap (λ b. cond b (slice_set words (word_place move.kind move.tag) (wrap_minus (slice_index words (word_place move.kind move.tag) + move.up) move.down)) words) not_its in
    ap (λ ws. words_after_moves cpu ws moves) stays ∙ others_leave cpu other differ words moves both.1

-- ---- the turns of all CPUs

module _ (own : ℕ → ℕ → Bool) (ops : List OnOp) (m : Machine) (cpus : (cpu : ℕ) → cpu < length m.seats → (seat_at cpu m).node.node.cpu ≡ cpu) where
  own_moves : (cpu : ℕ) → cpu < length m.seats → AreOf (λ c. eqb c cpu) (worker_done own ops m cpu).tally.moves
  own_moves cpu low = all_of (λ c. eqb c cpu) m.area.entries (ops_of cpu ops) (alone (own cpu) (worker_at cpu m)) (eq-eqb _ _ (cpus cpu low)) refl

  words_later : (cpu : ℕ) (words : List ℕ) (count from : ℕ) (now : Machine) → from + count ≤ length m.seats → cpu < from
      → words_after_moves cpu words (fold (machine_given own ops m) now (range_with_len from count)).tally.moves ≡ words_after_moves cpu words now.tally.moves
  words_later cpu words zero from now few low = refl
  words_later cpu words (suc count) from now few low =
      words_later cpu words count (from + 1) (machine_given own ops m now from) (omega arith) (omega arith)
      ∙ fold-append (words_after_move cpu) words now.tally.moves (worker_done own ops m from).tally.moves
      ∙ others_leave cpu from (λ e. omega (arith, e, low)) (words_after_moves cpu words now.tally.moves) (worker_done own ops m from).tally.moves (own_moves from (omega arith))

  words_behind : (cpu : ℕ) (words : List ℕ) (count from : ℕ) (now : Machine) → from + count ≤ length m.seats → from ≤ cpu → cpu < from + count
      → words_after_moves cpu words (fold (machine_given own ops m) now (range_with_len from count)).tally.moves ≡ words_after_moves cpu (words_after_moves cpu words now.tally.moves) (worker_done own ops m cpu).tally.moves
  words_behind cpu words zero from now few above below = absurd (omega arith)
  words_behind cpu words (suc count) from now few above below =
      by_bool {P = words_after_moves cpu words (fold (machine_given own ops m) (machine_given own ops m now from) (range_with_len (from + 1) count)).tally.moves ≡ words_after_moves cpu (words_after_moves cpu words now.tally.moves) (worker_done own ops m cpu).tally.moves} (eqb cpu from)
      (λ e.
      let same = eqb-true cpu from e in
      words_later cpu words count (from + 1) (machine_given own ops m now from) (omega arith) (omega (arith, same))
      ∙ fold-append (words_after_move cpu) words now.tally.moves (worker_done own ops m from).tally.moves
      ∙ ap (λ c. words_after_moves cpu (words_after_moves cpu words now.tally.moves) (worker_done own ops m c).tally.moves) (sym same))
      (λ e.
      let differ = eqb-false cpu from e in
      words_behind cpu words count (from + 1) (machine_given own ops m now from) (omega arith) (omega (arith, differ, above)) (omega (arith, below))
      ∙ ap (λ ws. words_after_moves cpu ws (worker_done own ops m cpu).tally.moves)
      (fold-append (words_after_move cpu) words now.tally.moves (worker_done own ops m from).tally.moves
      ∙ others_leave cpu from differ (words_after_moves cpu words now.tally.moves) (worker_done own ops m from).tally.moves (own_moves from (omega arith))))

  pub own_words : rises m.live ≡ true → NoneShared own → ((cpu : ℕ) → cpu < length m.seats → NamesItsOwn (own cpu) ops m cpu) → (cpu : ℕ) → cpu < length m.seats → (words : List ℕ)
      → words_after_moves cpu words (cpus_done ops m).tally.moves ≡ words_after_moves cpu (words_after_moves cpu words m.tally.moves) (worker_done own ops m cpu).tally.moves
  own_words up apart names cpu low words =
      ap (λ (x : Machine). words_after_moves cpu words x.tally.moves) (are_side_by_side own ops m up apart names)
      ∙ words_behind cpu words (length m.seats) 0 m (omega arith) (omega arith) (omega (arith, low))

-- ---- how much a CPU's ops count

pub record Counted (before after : Tally) (many : ℕ) : Type 0 where
  pub failed : after.failed ≤ before.failed + many
  pub uncounted : after.uncounted ≤ before.uncounted + many

one_given_counts : (given : Storage) (w : WorkerState) → Counted w.tally (one_given given w).tally 1
one_given_counts (Pages block) w = record { failed = omega arith; uncounted = omega arith }
one_given_counts (Object home frame place vector holds) w = record { failed = omega arith; uncounted = omega arith }
one_given_counts (Uncounted home frame place) w = record { failed = omega arith; uncounted = omega arith }

allocated_counts : (key order : ℕ) (given : Option Given) (w : WorkerState) → Counted w.tally (allocated key order given w).tally 1
allocated_counts key order None w = record { failed = omega arith; uncounted = omega arith }
allocated_counts key order (Some given) w = let r = one_given_counts given.storage (with_moves given.moves (with_node given.node (with_live (put key (Stored given.storage) w.live) w))) in record { failed = r.failed; uncounted = r.uncounted }

none_counted : (t : Tally) → Counted t t 1
none_counted t = record { failed = omega arith; uncounted = omega arith }

back_counts : (content : Content) (w : WorkerState) → Counted w.tally (given_back content w).tally 1
back_counts (Nothing order) w = none_counted w.tally
back_counts (Stored given) w = by (is_home given w)
  where
    by : (b : Bool) → Counted w.tally (cond {A = WorkerState} b (with_taken (come_home given w.seat.node) w) (sent_home given w)).tally 1
    by true = record { failed = omega arith; uncounted = omega arith }
    by false = none_counted w.tally

step_counts : (entries : List Entry) (what : TraceOp) (w : WorkerState) → Counted w.tally (done entries what w).tally 1
step_counts entries (op.Page key order) w = allocated_counts key order _ w
step_counts entries (op.Kmalloc key size) w = allocated_counts key 0 _ w
step_counts entries (op.Free key) w = let r = back_counts (content_at key w.live) (with_moves (close_moves (cpu_of w) (held_of (content_at key w.live))) (with_live (without key w.live) w)) in record { failed = r.failed; uncounted = r.uncounted }
step_counts entries (op.Split key order first) w = record { failed = omega arith; uncounted = omega arith }
step_counts entries (op.Swap one two) w = none_counted w.tally
step_counts entries (op.Trim key pages) w = record { failed = omega arith; uncounted = omega arith }
step_counts entries (op.Hook section index) w = none_counted w.tally
step_counts entries op.Unhook w = none_counted w.tally
step_counts entries (op.Enter section) w = none_counted w.tally
step_counts entries (op.Leave section) w = none_counted w.tally
step_counts entries (op.Unload section) w = none_counted w.tally

-- no more than an op each
pub ops_count : (entries : List Entry) (ops : List TraceOp) (w : WorkerState) → Counted w.tally (all_done entries ops w).tally (length ops)
ops_count entries [] w = record { failed = omega arith; uncounted = omega arith }
ops_count entries (what ∷ ops) w =
    let one = step_counts entries what w in
    let later = ops_count entries ops (done entries what w) in
    record { failed = omega (arith, one.failed, later.failed); uncounted = omega (arith, one.uncounted, later.uncounted) }
