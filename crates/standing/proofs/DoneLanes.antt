-- Lanes that are done leave workers and CPUs as the meaning of the round's ops leaves them.
use Rattle.std.proofs.Common.{◌≡◌, ℕ, zero, suc, ◌+◌, ◌<◌, ◌≤◌, Bool, true, false, ltb, List, [], ◌∷◌, ◌++◌, length, map, get_or, None, refl, sym, ap, ◌∙◌, subst, arith, lt-ltb, le-ltb, length-append, ◌-◌, ⊎_elim}
use Rattle.std.specs.Prelude.{◌*◌, ◌==◌, Option, drop, fold, replicate, sum_by, take}
use Rattle.std.specs.List.{filter, range_with_len}
use Rattle.std.proofs.lemmas.Bool.{cases_lt}
use Rattle.std.proofs.Math.Seq.{get_or-append_right}
use Rattle.std.proofs.lemmas.List.{length-drop, get_or-drop, get_or-map, get_or-take, get_or_append_left, get_or_default, length-map, length-take-le, same_lists}
use Rattle.std.proofs.lemmas.List.FromFn.{get_or-map-range_with_len, length-map-range_with_len}
use Rattle.std.proofs.lemmas.List.Sums.{sum_by-cons}
use Rattle.tag_rule.specs.Shown.{Board, CpuShown}
use Rattle.tag_ref.specs.Refs.{moved_by}
use Rattle.lanes.specs.Lanes.{AreDone, IsLaneDone, lanes_of}
use Rattle.lanes.specs.Numbered.{AllDone}
use Rattle.lanes.proofs.NumberLemmas.{of_done}
use Rattle.round_keys.specs.Handed.{handed, with_lives, with_lives_from}
use Rattle.round_modules.specs.Inside.{notes_in, outside, runs_in}
use Rattle.round_worker.specs.Shown.{Leaves, WorkerShown, at_start, with_state}
use Rattle.trace.specs.declared.traces.OnOp.{OnOp}
use Rattle.trace.specs.declared.traces.Trace.{Trace}
use Rattle.trace_play.specs.Live.{Live}
use Rattle.trace_play.specs.Machine.{Machine, fresh_seat, nothing_done, seat_at, worker_at}
use Rattle.trace_play.specs.Worker.{WorkerState, all_done}
use Rattle.trace_play.specs.Barrier.{cpus_done, ops_of}
use Rattle.trace_play.specs.Alone.{alone, given_back, kept, rises, worker_done, NamesItsOwn, NoneShared}
use Rattle.round_check.specs.declared.walk.Walk.{Walk}
use Rattle.trace.specs.declared.traces.Item.TheVariants as item
use Rattle.trace_play.proofs.RoundFits.{none_shared}
use Rattle.trace_play.specs.Fits.{is_owner}
use Rattle.trace_play.proofs.MovesOf.{AreOf, all_of, of_both}
use Rattle.trace_play.proofs.OwnWords.{own_words}
use Rattle.trace_play.proofs.SideBySide.{are_side_by_side, each_has}
use Rattle.trace_play.proofs.TraceFits.{cpus_count, seats_count}
use Rattle.trace_play.proofs.WordsTotal.{low_after}
use Rattle.trace_cover.proofs.Items.{AtRound, at_round}
use Rattle.round_keys.proofs.OwnersNamed.{named_are_owners}
use Rattle.standing.specs.Standing.{CpusStand, HasRoomFor, RoundOf, WorkersStand, first_of, standing_cpu}
use Rattle.standing.specs.Turning.{AreSameButWords, LivesAre, dealt, knowing}
use Rattle.standing.proofs.CpusMoved.{none_of, stand_at, stand_long}

-- ---- dealt workers, by number

lives_at : (lives : ℕ → Live) (from : ℕ) (workers : List WorkerShown) (i : ℕ) (d : WorkerShown) → i < length workers → get_or (with_lives_from from lives workers) i d ≡ record (get_or workers i d) { live = lives (from + i) }
lives_at lives from [] i d low = absurd (omega (arith, low))
lives_at lives from (w ∷ workers) zero d low = ap (λ n. let x : WorkerShown = record w { live = lives n } in x) (omega arith)
lives_at lives from (w ∷ workers) (suc i) d low = lives_at lives (from + 1) workers i d (omega (arith, low)) ∙ ap (λ n. let x : WorkerShown = record (get_or workers i d) { live = lives n } in x) (omega arith)

lives_long : (lives : ℕ → Live) (from : ℕ) (workers : List WorkerShown) → length (with_lives_from from lives workers) ≡ length workers
lives_long lives from [] = refl
lives_long lives from (w ∷ workers) = let l = lives_long lives (from + 1) workers in omega (arith, l)

pub dealt_long : (ops : List OnOp) (m : Machine) (workers : List WorkerShown) → length (dealt ops m workers) ≡ length workers
dealt_long ops m workers = length-map (with_lives (λ cpu. kept (handed ops cpu) m.live) workers) (knowing m.area.entries) ∙ lives_long (λ cpu. kept (handed ops cpu) m.live) 0 workers

pub dealt_at : (ops : List OnOp) (m : Machine) (workers : List WorkerShown) (i : ℕ) (d : WorkerShown) → i < length workers → get_or (dealt ops m workers) i d ≡ record (get_or workers i d) { live = kept (handed ops i) m.live; entries = m.area.entries }
dealt_at ops m workers i d low =
    let lives = λ (cpu : ℕ). kept (handed ops cpu) m.live in
    get_or-map (knowing m.area.entries) (with_lives lives workers) i d d (omega (arith, low, lives_long lives 0 workers))
    ∙ ap (knowing m.area.entries) (lives_at lives 0 workers i d low)
    ∙ ap (λ n. let x : WorkerShown = record (get_or workers i d) { live = lives n; entries = m.area.entries } in x) (omega arith)

plus_nothing : (n : ℕ) → n + 0 ≡ n
plus_nothing n = omega arith

-- nothing is done
nothing : (y : WorkerShown) → with_state (at_start y) y ≡ y
nothing y = λ j. record y { failed = plus_nothing y.failed j; uncounted = plus_nothing y.uncounted j }

-- ---- the machine's tally, CPU by CPU

module _ (own : ℕ → ℕ → Bool) (ops : List OnOp) (m : Machine) where
  failed_in : (count from : ℕ) (now : Machine) → (fold (given_back own ops m) now (range_with_len from count)).tally.failed ≡ now.tally.failed + sum_by (λ c. (worker_done own ops m c).tally.failed) (range_with_len from count)
  failed_in zero from now = omega arith
  failed_in (suc count) from now =
      let later = failed_in count (from + 1) (given_back own ops m now from) in
      let s = sum_by-cons (λ c. (worker_done own ops m c).tally.failed) from (range_with_len (from + 1) count) in
      omega (arith, later, s)

  uncounted_in : (count from : ℕ) (now : Machine) → (fold (given_back own ops m) now (range_with_len from count)).tally.uncounted ≡ now.tally.uncounted + sum_by (λ c. (worker_done own ops m c).tally.uncounted) (range_with_len from count)
  uncounted_in zero from now = omega arith
  uncounted_in (suc count) from now =
      let later = uncounted_in count (from + 1) (given_back own ops m now from) in
      let s = sum_by-cons (λ c. (worker_done own ops m c).tally.uncounted) from (range_with_len (from + 1) count) in
      omega (arith, later, s)

  low_in : (n : ℕ) (count from : ℕ) (now : Machine) → ((c : ℕ) → c < from + count → AreOf (λ cpu. ltb cpu n) (worker_done own ops m c).tally.moves) → AreOf (λ cpu. ltb cpu n) now.tally.moves
      → AreOf (λ cpu. ltb cpu n) (fold (given_back own ops m) now (range_with_len from count)).tally.moves
  low_in n zero from now each a = a
  low_in n (suc count) from now each a =
      low_in n count (from + 1) (given_back own ops m now from) (λ c low. each c (omega (arith, low))) (of_both (λ cpu. ltb cpu n) now.tally.moves (worker_done own ops m from).tally.moves a (each from (omega arith)))

zero_more : (from : ℕ) → from + 0 ≡ from
zero_more from = omega arith

shifted : (from i : ℕ) → from + suc i ≡ from + 1 + i
shifted from i = omega arith

-- two sums, term by term
sum_terms : {X : Type 0} (f : X → ℕ) (g h : ℕ → ℕ) (xs : List X) (from : ℕ) → ((i : ℕ) (d : X) → i < length xs → f (get_or xs i d) ≡ g (from + i) + h (from + i)) → sum_by f xs ≡ sum_by g (range_with_len from (length xs)) + sum_by h (range_with_len from (length xs))
sum_terms f g h [] from each = omega arith
sum_terms f g h (x ∷ xs) from each =
    let one = each 0 x (omega arith) ∙ (λ i. g (zero_more from i) + h (zero_more from i)) in
    let later = sum_terms f g h xs (from + 1) (λ i d low. each (suc i) d (omega (arith, low)) ∙ (λ j. g (shifted from i j) + h (shifted from i j))) in
    omega (arith, sum_by-cons f x xs, sum_by-cons g from (range_with_len (from + 1) (length xs)), sum_by-cons h from (range_with_len (from + 1) (length xs)), one, later)

sum_same : {X : Type 0} (f : X → ℕ) (g : ℕ → ℕ) (xs : List X) (from : ℕ) → ((i : ℕ) (d : X) → i < length xs → f (get_or xs i d) ≡ g (from + i)) → sum_by f xs ≡ sum_by g (range_with_len from (length xs))
sum_same f g [] from each = refl
sum_same f g (x ∷ xs) from each =
    let one = each 0 x (omega arith) ∙ ap g (zero_more from) in
    let later = sum_same f g xs (from + 1) (λ i d low. each (suc i) d (omega (arith, low)) ∙ ap g (shifted from i)) in
    omega (arith, sum_by-cons f x xs, sum_by-cons g from (range_with_len (from + 1) (length xs)), one, later)

module _ (trace : Trace) (top : Option ℕ) (ops : List OnOp) (r : RoundOf trace top ops) (b : Board) (cpus after : List CpuShown) (workers left : List WorkerShown) (room : HasRoomFor b trace)
    (s : CpusStand b (first_of trace top ops r) cpus) (w : WorkersStand b (first_of trace top ops r) workers) (d : AreDone (lanes_of trace.cpus ops) (dealt ops (first_of trace top ops r) workers) left (take trace.cpus cpus) after) where
  abbrev pub begins : Machine
  begins = first_of trace top ops r

  abbrev pub behind : Machine
  behind = cpus_done ops begins

  abbrev pub own : ℕ → ℕ → Bool
  own = is_owner r.after

  abbrev pub done_by : ℕ → WorkerState
  done_by cpu = worker_done own ops begins cpu

  here : AtRound trace r.formed ops r.before r.after begins
  here = at_round trace r.formed top ops r.before r.after r.passes r.round r.none r.walked

  count : length begins.seats ≡ trace.cpus
  count = seats_count trace top r.round.front

  many : length workers ≡ trace.cpus
  many = sym (length-map workers (λ (x : WorkerShown). x.seat)) ∙ ap length w.seats ∙ count

  done : AllDone (lanes_of trace.cpus ops) (dealt ops begins workers) left (take trace.cpus cpus) after
  done = of_done (lanes_of trace.cpus ops) (dealt ops begins workers) left (take trace.cpus cpus) after d

  lanes_long : length (lanes_of trace.cpus ops) ≡ trace.cpus
  lanes_long = length-map-range_with_len (λ cpu. filter (λ (on : OnOp). on.cpu == cpu) ops) 0 trace.cpus

  left_long : length left ≡ trace.cpus
  left_long = done.a_worker_each.1 ∙ lanes_long

  after_long : length after ≡ trace.cpus
  after_long = done.a_cpu_each.1 ∙ lanes_long

  -- a dealt worker begins as the meaning's worker of its CPU
  starts : (i : ℕ) (x : WorkerShown) → i < trace.cpus → at_start (get_or (dealt ops begins workers) i x) ≡ alone (own i) (worker_at i begins)
  starts i x low =
      let at = dealt_at ops begins workers i x (omega (arith, low, many)) in
      let seat : (get_or workers i x).seat ≡ seat_at i begins =
      sym (get_or-map (λ (y : WorkerShown). y.seat) workers i x (fresh_seat 0 0 i) (omega (arith, low, many))) ∙ ap (λ seats. get_or seats i (fresh_seat 0 0 i)) w.seats in
      ap at_start at
      ∙ (λ j. let q : WorkerState = record { seat = seat j; live = named_are_owners trace top ops r.before r.after r.formed r.passes r.round r.none r.walked i j; tally = nothing_done } in q)

  one_done : (i : ℕ) (x : WorkerShown) (c : CpuShown) → i < trace.cpus → Leaves (done_by i) (get_or (dealt ops begins workers) i x) (get_or left i x) (get_or (take trace.cpus cpus) i c) (get_or after i c)
  one_done i x c low = by (filter (λ (on : OnOp). on.cpu == i) ops) refl (subst (λ lane. IsLaneDone lane old (get_or left i x) (get_or (take trace.cpus cpus) i c) (get_or after i c)) lane_is (done.each x c i (omega (arith, low, lanes_long))))
    where
      old : WorkerShown
      old = get_or (dealt ops begins workers) i x

      lane_is : get_or (lanes_of trace.cpus ops) i [] ≡ filter (λ (on : OnOp). on.cpu == i) ops
      lane_is = get_or-map-range_with_len (λ cpu. filter (λ (on : OnOp). on.cpu == cpu) ops) 0 trace.cpus i i [] low (omega arith)

      entries_are : old.entries ≡ begins.area.entries
      entries_are = ap (λ (y : WorkerShown). y.entries) (dealt_at ops begins workers i x (omega (arith, low, many)))

      by : (lane : List OnOp) → filter (λ (on : OnOp). on.cpu == i) ops ≡ lane → IsLaneDone lane old (get_or left i x) (get_or (take trace.cpus cpus) i c) (get_or after i c)
          → Leaves (done_by i) old (get_or left i x) (get_or (take trace.cpus cpus) i c) (get_or after i c)
      by [] is h =
          let done_is : done_by i ≡ alone (own i) (worker_at i begins) = ap (λ (lane : List OnOp). all_done begins.area.entries (map (λ (on : OnOp). on.op) lane) (alone (own i) (worker_at i begins))) is in
          subst (λ (st : WorkerState). Leaves st old (get_or left i x) (get_or (take trace.cpus cpus) i c) (get_or after i c)) (starts i x low ∙ sym done_is)
          (record { worker = h.0 ∙ sym (nothing old); moves = h.1 })
      by (on ∷ lane) is h =
          subst (λ (st : WorkerState). Leaves st old (get_or left i x) (get_or (take trace.cpus cpus) i c) (get_or after i c))
          (λ j. all_done (entries_are j) (map (λ (on : OnOp). on.op) (sym is j)) (starts i x low j))
          h

  apart : NoneShared own
  apart = none_shared r.after

  names : (cpu : ℕ) → NamesItsOwn (own cpu) ops begins cpu
  names cpu = subst (λ (x : Walk). NamesItsOwn (is_owner x cpu) ops begins cpu) here.same (here.fits.names cpu)

  up : rises begins.live ≡ true
  up = here.between.rise

  any_worker : WorkerShown
  any_worker = record { board = b; cpu = 0; seat = fresh_seat 0 0 0; live = []; entries = []; failed = 0; uncounted = 0 }

  any_cpu : CpuShown
  any_cpu = standing_cpu b begins 0

  -- ---- the workers

  left_at : (i : ℕ) (x : WorkerShown) → i < trace.cpus → get_or left i x ≡ with_state (done_by i) (record (get_or workers i x) { live = kept (handed ops i) begins.live; entries = begins.area.entries })
  left_at i x low = (one_done i x any_cpu low).worker ∙ ap (with_state (done_by i)) (dealt_at ops begins workers i x (omega (arith, low, many)))

  seats_are : map (λ (x : WorkerShown). x.seat) left ≡ behind.seats
  seats_are =
      same_lists (map (λ (x : WorkerShown). x.seat) left) behind.seats (length-map left (λ (x : WorkerShown). x.seat) ∙ left_long ∙ sym (cpus_count ops begins ∙ count))
      (λ i e low.
      let below : i < trace.cpus = omega (arith, low, length-map left (λ (x : WorkerShown). x.seat), left_long) in
      get_or-map (λ (x : WorkerShown). x.seat) left i any_worker e (omega (arith, below, left_long))
      ∙ ap (λ (x : WorkerShown). x.seat) (left_at i any_worker below)
      ∙ sym ((each_has own ops begins up apart (λ c _. names c) i (omega (arith, below, count))).0)
      ∙ get_or_default behind.seats i (fresh_seat 0 0 i) e (omega (arith, below, count, cpus_count ops begins)))

  pub lives_are : LivesAre own ops begins left
  lives_are =
      let many_done : length (map (λ cpu. (done_by cpu).live) (range_with_len 0 (length begins.seats))) ≡ length begins.seats = length-map-range_with_len (λ cpu. (done_by cpu).live) 0 (length begins.seats) in
      same_lists (map (λ (x : WorkerShown). x.live) left) (map (λ cpu. (done_by cpu).live) (range_with_len 0 (length begins.seats))) (length-map left (λ (x : WorkerShown). x.live) ∙ left_long ∙ sym count ∙ sym many_done)
      (λ i e low.
      let below : i < trace.cpus = omega (arith, low, length-map left (λ (x : WorkerShown). x.live), left_long) in
      get_or-map (λ (x : WorkerShown). x.live) left i any_worker e (omega (arith, below, left_long))
      ∙ ap (λ (x : WorkerShown). x.live) (left_at i any_worker below)
      ∙ sym (get_or-map-range_with_len (λ cpu. (done_by cpu).live) 0 (length begins.seats) i i e (omega (arith, below, count)) (omega arith)))

  numbers_are : map (λ (x : WorkerShown). x.cpu) left ≡ map (λ (x : WorkerShown). x.cpu) workers
  numbers_are =
      same_lists (map (λ (x : WorkerShown). x.cpu) left) (map (λ (x : WorkerShown). x.cpu) workers) (length-map left (λ (x : WorkerShown). x.cpu) ∙ left_long ∙ sym many ∙ sym (length-map workers (λ (x : WorkerShown). x.cpu)))
      (λ i e low.
      let below : i < trace.cpus = omega (arith, low, length-map left (λ (x : WorkerShown). x.cpu), left_long) in
      get_or-map (λ (x : WorkerShown). x.cpu) left i any_worker e (omega (arith, below, left_long))
      ∙ ap (λ (x : WorkerShown). x.cpu) (left_at i any_worker below)
      ∙ sym (get_or-map (λ (x : WorkerShown). x.cpu) workers i any_worker e (omega (arith, below, many))))

  told : behind ≡ fold (given_back own ops begins) begins (range_with_len 0 (length begins.seats))
  told = are_side_by_side own ops begins up apart (λ c _. names c)

  pub workers_stand : WorkersStand b behind left
  workers_stand = record {
    seats = seats_are;
    boards = λ i x low. let below : i < trace.cpus = omega (arith, low, left_long) in ap (λ (y : WorkerShown). y.board) (left_at i x below) ∙ w.boards i x (omega (arith, below, many));
    numbers = numbers_are ∙ w.numbers ∙ ap (range_with_len 0) (sym (cpus_count ops begins));
    failed =
        let terms = sum_terms (λ (x : WorkerShown). x.failed) (λ i. (get_or workers i any_worker).failed) (λ i. (done_by i).tally.failed) left 0
        (λ i x low. let below : i < trace.cpus = omega (arith, low, left_long) in ap (λ (y : WorkerShown). y.failed) (left_at i x below) ∙ ap (λ (y : WorkerShown). y.failed + (done_by i).tally.failed) (get_or_default workers i x any_worker (omega (arith, below, many))) ∙ (λ j. (get_or workers (plus_zero i j) any_worker).failed + (done_by (plus_zero i j)).tally.failed)) in
        let first = sum_same (λ (x : WorkerShown). x.failed) (λ i. (get_or workers i any_worker).failed) workers 0 (λ i x low. ap (λ (y : WorkerShown). y.failed) (get_or_default workers i x any_worker low) ∙ (λ j. (get_or workers (plus_zero i j) any_worker).failed)) in
        let behind_is = ap (λ (x : Machine). x.tally.failed) told ∙ failed_in own ops begins (length begins.seats) 0 begins in
        let firsts : sum_by (λ i. (get_or workers i any_worker).failed) (range_with_len 0 (length left)) ≡ begins.tally.failed = ap (λ n. sum_by (λ i. (get_or workers i any_worker).failed) (range_with_len 0 n)) (left_long ∙ sym many) ∙ sym first ∙ w.failed in
        let seconds : sum_by (λ i. (done_by i).tally.failed) (range_with_len 0 (length left)) ≡ sum_by (λ i. (done_by i).tally.failed) (range_with_len 0 (length begins.seats)) = ap (λ n. sum_by (λ i. (done_by i).tally.failed) (range_with_len 0 n)) (left_long ∙ sym count) in
        terms ∙ (λ j. firsts j + seconds j) ∙ sym behind_is;
    uncounted =
        let terms = sum_terms (λ (x : WorkerShown). x.uncounted) (λ i. (get_or workers i any_worker).uncounted) (λ i. (done_by i).tally.uncounted) left 0
        (λ i x low. let below : i < trace.cpus = omega (arith, low, left_long) in ap (λ (y : WorkerShown). y.uncounted) (left_at i x below) ∙ ap (λ (y : WorkerShown). y.uncounted + (done_by i).tally.uncounted) (get_or_default workers i x any_worker (omega (arith, below, many))) ∙ (λ j. (get_or workers (plus_zero i j) any_worker).uncounted + (done_by (plus_zero i j)).tally.uncounted)) in
        let first = sum_same (λ (x : WorkerShown). x.uncounted) (λ i. (get_or workers i any_worker).uncounted) workers 0 (λ i x low. ap (λ (y : WorkerShown). y.uncounted) (get_or_default workers i x any_worker low) ∙ (λ j. (get_or workers (plus_zero i j) any_worker).uncounted)) in
        let behind_is = ap (λ (x : Machine). x.tally.uncounted) told ∙ uncounted_in own ops begins (length begins.seats) 0 begins in
        let firsts : sum_by (λ i. (get_or workers i any_worker).uncounted) (range_with_len 0 (length left)) ≡ begins.tally.uncounted = ap (λ n. sum_by (λ i. (get_or workers i any_worker).uncounted) (range_with_len 0 n)) (left_long ∙ sym many) ∙ sym first ∙ w.uncounted in
        let seconds : sum_by (λ i. (done_by i).tally.uncounted) (range_with_len 0 (length left)) ≡ sum_by (λ i. (done_by i).tally.uncounted) (range_with_len 0 (length begins.seats)) = ap (λ n. sum_by (λ i. (done_by i).tally.uncounted) (range_with_len 0 n)) (left_long ∙ sym count) in
        terms ∙ (λ j. firsts j + seconds j) ∙ sym behind_is;
  }
    where
      plus_zero : (i : ℕ) → i ≡ 0 + i
      plus_zero i = omega arith

  -- ---- the CPUs

  long : length cpus ≡ b.shape.cpus
  long = stand_long b begins cpus s

  after_at : (i : ℕ) (c : CpuShown) → i < trace.cpus → get_or after i c ≡ moved_by (done_by i).tally.moves (get_or cpus i c)
  after_at i c low = (one_done i any_worker c low).moves ∙ ap (moved_by (done_by i).tally.moves) (get_or-take trace.cpus cpus i c low)

  pub same_but_words : AreSameButWords (take trace.cpus cpus) after
  same_but_words = (
    same_lists (map runs_in after) (map runs_in (take trace.cpus cpus)) (many_of runs_in)
        (λ i e low.
        let below : i < trace.cpus = omega (arith, low, length-map after runs_in, after_long) in
        get_or-map runs_in after i any_cpu e (omega (arith, below, after_long)) ∙ ap runs_in (one_done i any_worker any_cpu below).moves ∙ sym (get_or-map runs_in (take trace.cpus cpus) i any_cpu e (omega (arith, below, taken)))),
    same_lists (map notes_in after) (map notes_in (take trace.cpus cpus)) (many_of notes_in)
        (λ i e low.
        let below : i < trace.cpus = omega (arith, low, length-map after notes_in, after_long) in
        get_or-map notes_in after i any_cpu e (omega (arith, below, after_long)) ∙ ap notes_in (one_done i any_worker any_cpu below).moves ∙ sym (get_or-map notes_in (take trace.cpus cpus) i any_cpu e (omega (arith, below, taken)))),
  )
    where
      taken : length (take trace.cpus cpus) ≡ trace.cpus
      taken = length-take-le trace.cpus cpus (omega (arith, long, room.cpus))

      many_of : {X : Type 0} (f : CpuShown → X) → length (map f after) ≡ length (map f (take trace.cpus cpus))
      many_of f = length-map after f ∙ after_long ∙ sym taken ∙ sym (length-map (take trace.cpus cpus) f)

  -- the moves of a round are of the trace's CPUs
  begins_low : AreOf (λ cpu. ltb cpu trace.cpus) begins.tally.moves
  begins_low = (low_after trace top r.formed r.passes r.round.front (item.Round ops ∷ r.round.back) r.round.stands).low

  done_low : (c : ℕ) → c < trace.cpus → AreOf (λ cpu. ltb cpu trace.cpus) (done_by c).tally.moves
  done_low c low = all_of (λ cpu. ltb cpu trace.cpus) begins.area.entries (ops_of c ops) (alone (own c) (worker_at c begins)) (ap (λ n. ltb n trace.cpus) (here.holds_now.sound.cpus c (omega (arith, low, count))) ∙ lt-ltb c trace.cpus low) refl

  behind_low : AreOf (λ cpu. ltb cpu trace.cpus) behind.tally.moves
  behind_low = subst (λ (x : Machine). AreOf (λ cpu. ltb cpu trace.cpus) x.tally.moves) (sym told) (low_in own ops begins trace.cpus (length begins.seats) 0 begins (λ c low. done_low c (omega (arith, low, count))) begins_low)

  abbrev with_words : ℕ → List ℕ → CpuShown
  with_words n words = record { board = b; part = record { number = n; words = words; hand = None; runs = []; notes = [] } }

  abbrev zeros : List ℕ
  zeros = replicate (2 * b.shape.tags) 0

  pub cpus_stand : CpusStand b behind (after ++ drop trace.cpus cpus)
  cpus_stand =
      same_lists (map outside (after ++ drop trace.cpus cpus)) (map (standing_cpu b behind) (range_with_len 0 b.shape.cpus))
      (length-map (after ++ drop trace.cpus cpus) outside ∙ whole ∙ sym (length-map-range_with_len (standing_cpu b behind) 0 b.shape.cpus))
      (λ i e low.
      let below : i < b.shape.cpus = omega (arith, low, length-map (after ++ drop trace.cpus cpus) outside, whole) in
      get_or-map outside (after ++ drop trace.cpus cpus) i any_cpu e (omega (arith, below, whole))
      ∙ ⊎_elim (here_at i below) (past_at i below) (cases_lt i trace.cpus)
      ∙ sym (get_or-map-range_with_len (standing_cpu b behind) 0 b.shape.cpus i i e below (omega arith)))
    where
      whole : length (after ++ drop trace.cpus cpus) ≡ b.shape.cpus
      whole = length-append after (drop trace.cpus cpus) ∙ (let d = length-drop trace.cpus cpus in omega (arith, d, after_long, long, room.cpus))

      here_at : (i : ℕ) → i < b.shape.cpus → i < trace.cpus → outside (get_or (after ++ drop trace.cpus cpus) i any_cpu) ≡ standing_cpu b behind i
      here_at i below low =
          ap outside (get_or_append_left after (drop trace.cpus cpus) any_cpu i (omega (arith, low, after_long)) ∙ after_at i any_cpu low)
          ∙ ap (moved_by (done_by i).tally.moves) (stand_at b begins cpus i any_cpu s (omega (arith, below, long)))
          ∙ ap (with_words i) (sym (own_words own ops begins (λ c low. here.holds_now.sound.cpus c low) up apart (λ c _. names c) i (omega (arith, low, count)) zeros))

      past_at : (i : ℕ) → i < b.shape.cpus → trace.cpus ≤ i → outside (get_or (after ++ drop trace.cpus cpus) i any_cpu) ≡ standing_cpu b behind i
      past_at i below high =
          let out : ltb i trace.cpus ≡ false = le-ltb i trace.cpus high in
          ap outside (get_or-append_right after (drop trace.cpus cpus) i any_cpu (omega (arith, high, after_long)) ∙ get_or-drop trace.cpus cpus (i - length after) any_cpu ∙ ap (λ n. get_or cpus n any_cpu) (omega (arith, high, after_long)))
          ∙ stand_at b begins cpus i any_cpu s (omega (arith, below, long))
          ∙ ap (with_words i) (none_of i (λ cpu. ltb cpu trace.cpus) out zeros begins.tally.moves begins_low ∙ sym (none_of i (λ cpu. ltb cpu trace.cpus) out zeros behind.tally.moves behind_low))
