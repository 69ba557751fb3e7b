-- What comes home in a round finds its home, and leaves workers and CPUs as the meaning's barrier does.
use Rattle.std.proofs.Common.{◌≡◌, ℕ, zero, suc, ◌+◌, ◌<◌, ltb, List, [], ◌∷◌, ◌++◌, length, map, get_or, All, refl, sym, ap, ◌∙◌, subst, arith, lt-ltb}
use Rattle.std.specs.Prelude.{Option, drop, sum_by, take}
use Rattle.std.specs.List.{range_with_len}
use Rattle.std.proofs.lemmas.List.{get_or-map, get_or-take, length-map, length-set, length-take-le}
use Rattle.std.proofs.lemmas.List.FromFn.{get_or-range_with_len}
use Rattle.std.proofs.lemmas.List.Sums.{sum_by-cons}
use Rattle.tag_model.specs.declared.state.Kind.TheVariants.{Bytes}
use Rattle.tag_rule.specs.Shown.{Board, CpuShown}
use Rattle.tag_ref.specs.Refs.{moved_by}
use Rattle.slab_cache.specs.Storage.{Storage, home_of}
use Rattle.homing.specs.Seats.{AllFind, all_in, FindsHome, home_moves, moves_in, one_in, seat_in, seats_home, sent, settled, taken_in, with_home}
use Rattle.homing.specs.Workers.{AreBeside, seats_of, with_seats}
use Rattle.homing.proofs.SeatLemmas.{all_home_told}
use Rattle.homing.proofs.WorkerLemmas.{seats_of_with}
use Rattle.homing.proofs.Checked.{finds_after_ops}
use Rattle.round_worker.specs.Shown.{WorkerShown}
use Rattle.trace.specs.declared.traces.OnOp.{OnOp}
use Rattle.trace.specs.declared.traces.Trace.{Trace}
use Rattle.trace_play.specs.Machine.{Machine}
use Rattle.trace_play.specs.Worker.{Seat, Tally}
use Rattle.trace_play.specs.Barrier.{none_returning, cpus_done, modules_done}
use Rattle.trace_play.proofs.MovesOf.{AreOf, home_moves_of, of_both}
use Rattle.trace_play.proofs.TotalsHold.{modules_tally}
use Rattle.trace_play.proofs.TraceFits.{cpus_count, modules_seats, seats_count}
use Rattle.standing.specs.Standing.{CpusStand, HasRoomFor, RoundOf, WorkersStand, first_of}
use Rattle.standing.specs.Turning.{home_of_round}
use Rattle.standing.proofs.CpusMoved.{first_moved, stand_at, stand_long}

-- ---- whose the moves are

homes_of : (n : ℕ) (seats : List Seat) (storage : List Storage) → length seats ≡ n → AllFind seats storage → AreOf (λ cpu. ltb cpu n) (moves_in seats storage)
homes_of n seats [] long f = refl
homes_of n seats (given ∷ rest) long f =
    let home = home_of given in
    let node = (seat_in home seats).node in
    of_both (λ cpu. ltb cpu n) (taken_in seats given).moves (moves_in (one_in seats given) rest)
    (home_moves_of (λ cpu. ltb cpu n) given node (ap (λ c. ltb c n) f.0.own ∙ lt-ltb home n (omega (arith, f.0.low, long))))
    (homes_of n (one_in seats given) rest (length-set seats home _ ∙ long) f.1)

all_in_long : (seats : List Seat) (storage : List Storage) → length (all_in seats storage) ≡ length seats
all_in_long seats [] = refl
all_in_long seats (given ∷ rest) = all_in_long (one_in seats given) rest ∙ length-set seats (home_of given) _

-- ---- workers with other seats

seats_stay : (seats : List Seat) (workers : List WorkerShown) (f : WorkerShown → ℕ) → ((w : WorkerShown) (seat : Seat) → f (record w { seat = seat }) ≡ f w) → length seats ≡ length workers → sum_by f (with_seats seats workers) ≡ sum_by f workers
seats_stay [] [] f same long = refl
seats_stay [] (w ∷ workers) f same long = absurd (omega (arith, long))
seats_stay (seat ∷ seats) [] f same long = absurd (omega (arith, long))
seats_stay (seat ∷ seats) (w ∷ workers) f same long =
    let rest = seats_stay seats workers f same (omega (arith, long)) in
    sum_by-cons f (record w { seat = seat }) (with_seats seats workers) ∙ (λ i. same w seat i + rest i) ∙ sym (sum_by-cons f w workers)

numbers_stay : (seats : List Seat) (workers : List WorkerShown) → length seats ≡ length workers → map (λ (w : WorkerShown). w.cpu) (with_seats seats workers) ≡ map (λ (w : WorkerShown). w.cpu) workers
numbers_stay [] [] long = refl
numbers_stay [] (w ∷ workers) long = absurd (omega (arith, long))
numbers_stay (seat ∷ seats) [] long = absurd (omega (arith, long))
numbers_stay (seat ∷ seats) (w ∷ workers) long = ap (λ ns. w.cpu ∷ ns) (numbers_stay seats workers (omega (arith, long)))

boards_stay : (b : Board) (seats : List Seat) (workers : List WorkerShown) → length seats ≡ length workers → All (λ (w : WorkerShown). w.board ≡ b) workers → All (λ (w : WorkerShown). w.board ≡ b) (with_seats seats workers)
boards_stay b [] workers long all = λ k d low. absurd (omega (arith, low))
boards_stay b (seat ∷ seats) [] long all = absurd (omega (arith, long))
boards_stay b (seat ∷ seats) (w ∷ workers) long all = by (boards_stay b seats workers (omega (arith, long)) (λ j e below. all (suc j) e (omega (arith, below))))
  where
    by : All (λ (x : WorkerShown). x.board ≡ b) (with_seats seats workers) → (k : ℕ) (d : WorkerShown) → k < length (with_seats (seat ∷ seats) (w ∷ workers)) → (get_or (with_seats (seat ∷ seats) (w ∷ workers)) k d).board ≡ b
    by rest zero d low = all 0 d (omega arith)
    by rest (suc k) d low = rest k d (omega (arith, low))

module _ (trace : Trace) (top : Option ℕ) (ops : List OnOp) (r : RoundOf trace top ops) (b : Board) (cpus : List CpuShown) (workers : List WorkerShown) (room : HasRoomFor b trace)
    (s : CpusStand b (cpus_done ops (first_of trace top ops r)) cpus) (w : WorkersStand b (cpus_done ops (first_of trace top ops r)) workers) where
  abbrev pub begins : Machine
  begins = first_of trace top ops r

  abbrev pub left : Machine
  left = cpus_done ops begins

  count : length left.seats ≡ trace.cpus
  count = cpus_count ops begins ∙ seats_count trace top r.round.front

  many : length workers ≡ trace.cpus
  many = sym (length-map workers (λ (x : WorkerShown). x.seat)) ∙ ap length w.seats ∙ count

  finds : FindsHome (seats_of workers)
  finds = subst FindsHome (sym w.seats) (finds_after_ops trace top ops r.before r.formed r.passes r.round r.none)

  beside : AreBeside workers (take trace.cpus cpus)
  beside =
      let long = stand_long b left cpus s in
      record {
        board = b;
        long = many ∙ sym (length-take-le trace.cpus cpus (omega (arith, long, room.cpus)));
        tables = w.boards;
        numbers = λ cpu x low. number cpu x low;
        each = λ cpu x seat low.
            let here : get_or (take trace.cpus cpus) cpu seat ≡ get_or cpus cpu seat = get_or-take trace.cpus cpus cpu seat (omega (arith, low, many)) in
            let at = stand_at b left cpus cpu seat s (omega (arith, low, many, long, room.cpus)) in
            record {
              table = w.boards cpu x low ∙ sym (ap (λ (c : CpuShown). c.board) at) ∙ sym (ap (λ (c : CpuShown). c.board) here);
              own = number cpu x low ∙ sym (ap (λ (c : CpuShown). c.part.number) at) ∙ sym (ap (λ (c : CpuShown). c.part.number) here);
              hand = ap (λ (c : CpuShown). c.part.hand) here ∙ ap (λ (c : CpuShown). c.part.hand) at;
            };
      }
    where
      number : (cpu : ℕ) (x : WorkerShown) → cpu < length workers → (get_or workers cpu x).cpu ≡ cpu
      number cpu x low =
          sym (get_or-map (λ (y : WorkerShown). y.cpu) workers cpu x 0 low) ∙ ap (λ xs. get_or xs cpu 0) w.numbers
          ∙ get_or-range_with_len 0 (length left.seats) cpu 0 (omega (arith, low, many, count)) ∙ omega arith

  pub ready : AreBeside workers (take trace.cpus cpus) × FindsHome (seats_of workers)
  ready = (beside, finds)

  pub home : (after : List WorkerShown) → after ≡ with_seats (seats_home (seats_of workers)) workers
      → WorkersStand b (home_of_round ops begins) after × CpusStand b (home_of_round ops begins) (map (moved_by (home_moves (seats_of workers))) (take trace.cpus cpus) ++ drop trace.cpus cpus)
  home after is =
      let marked = modules_done ops left in
      let same_seats : marked.seats ≡ seats_of workers = modules_seats ops left ∙ sym w.seats in
      let told : home_of_round ops begins ≡ with_home (seats_home (seats_of workers)) (home_moves (seats_of workers)) marked = all_home_told marked ∙ ap (λ seats. with_home (seats_home seats) (home_moves seats) marked) same_seats in
      let tally : marked.tally ≡ left.tally = modules_tally Bytes 0 ops left in
      let long : length (seats_home (seats_of workers)) ≡ length workers = all_in_long (settled (seats_of workers)) (sent (seats_of workers)) ∙ length-map (seats_of workers) none_returning ∙ length-map workers (λ (x : WorkerShown). x.seat) in
      let now = with_home (seats_home (seats_of workers)) (home_moves (seats_of workers)) marked in
      subst (λ (m : Machine). WorkersStand b m after × CpusStand b m (map (moved_by (home_moves (seats_of workers))) (take trace.cpus cpus) ++ drop trace.cpus cpus)) (sym told) (
        subst (WorkersStand b now) (sym is)
            (record {
              seats = seats_of_with (seats_home (seats_of workers)) workers long;
              boards = boards_stay b (seats_home (seats_of workers)) workers long w.boards;
              numbers = numbers_stay (seats_home (seats_of workers)) workers long ∙ w.numbers ∙ ap (range_with_len 0) (count ∙ sym many ∙ sym long);
              failed = seats_stay (seats_home (seats_of workers)) workers (λ (x : WorkerShown). x.failed) (λ x seat. refl) long ∙ w.failed ∙ sym (ap (λ (t : Tally). t.failed) tally);
              uncounted = seats_stay (seats_home (seats_of workers)) workers (λ (x : WorkerShown). x.uncounted) (λ x seat. refl) long ∙ w.uncounted ∙ sym (ap (λ (t : Tally). t.uncounted) tally);
            }),
        first_moved b left now (home_moves (seats_of workers)) trace.cpus cpus (ap (λ (t : Tally). t.moves ++ home_moves (seats_of workers)) tally)
            (homes_of trace.cpus (settled (seats_of workers)) (sent (seats_of workers)) (length-map (seats_of workers) none_returning ∙ length-map workers (λ (x : WorkerShown). x.seat) ∙ many) finds)
            s,
      )
