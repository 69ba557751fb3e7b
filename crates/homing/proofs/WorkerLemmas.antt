-- Workers beside their CPUs, as storage goes home.
use Rattle.std.proofs.Common.{◌≡◌, ℕ, zero, suc, ◌<◌, List, [], ◌∷◌, length, map, set, get_or, drop, refl, sym, ap, ◌∙◌, subst, subst₂, arith}
use Rattle.std.proofs.lemmas.List.{get_or-map, length-map, map-set}
use Rattle.tag_rule.specs.Shown.{CpuShown}
use Rattle.tag_model.specs.Moves.{Move}
use Rattle.tag_ref.specs.Refs.{moved_by}
use Rattle.slab_cache.specs.Calls.{IsOf}
use Rattle.slab_cache.specs.Homing.{come_home}
use Rattle.slab_cache.specs.Storage.{Storage, home_of}
use Rattle.trace_play.specs.Barrier.{none_returning}
use Rattle.trace_play.specs.Machine.{fresh_seat}
use Rattle.trace_play.specs.Worker.{Seat}
use Rattle.round_worker.specs.Shown.{Beside, WorkerShown}
use Rattle.round_worker.specs.Working.{with_node, with_returning}
use Rattle.homing.specs.Seats.{seat_in, taken_in, one_in, Finds}
use Rattle.homing.specs.Workers.{AreBeside, but_seat, seats_of, with_seats}
use Rattle.homing.proofs.CpuLemmas.{one_changes, still_elsewhere}

-- ---- one of them

pub seat_there : (workers : List WorkerShown) (i : ℕ) (w : WorkerShown) → i < length workers → seat_in i (seats_of workers) ≡ (get_or workers i w).seat
seat_there workers i w low = get_or-map (λ (w : WorkerShown). w.seat) workers i w (fresh_seat 0 0 i) low

-- one with another seat
pub seats_set : (workers : List WorkerShown) (i : ℕ) (w : WorkerShown) (seat : Seat) → seats_of (set workers i (record w { seat = seat })) ≡ set (seats_of workers) i seat
seats_set workers i w seat = map-set (λ (w : WorkerShown). w.seat) workers i (record w { seat = seat })

same_place : {A B : Type 0} (f : A → B) (xs : List A) (i : ℕ) (x d : A) → i < length xs → f x ≡ f (get_or xs i d) → map f (set xs i x) ≡ map f xs
same_place f [] i x d low h = refl
same_place f (y ∷ ys) zero x d low h = ap (λ b. b ∷ map f ys) h
same_place f (y ∷ ys) (suc i) x d low h = ap (λ (bs : List _). f y ∷ bs) (same_place f ys i x d (omega arith) h)

pub rest_set : (workers : List WorkerShown) (i : ℕ) (w : WorkerShown) (seat : Seat) → i < length workers → w ≡ get_or workers i w → map but_seat (set workers i (record w { seat = seat })) ≡ map but_seat workers
rest_set workers i w seat low is = same_place but_seat workers i (record w { seat = seat }) w low (ap but_seat is)

-- ---- they stay beside each other

module _ (workers after : List WorkerShown) (same : map but_seat after ≡ map but_seat workers) where
  pub same_length : length after ≡ length workers
  same_length = sym (length-map after but_seat) ∙ ap (λ (ws : List WorkerShown). length ws) same ∙ length-map workers but_seat

  pub same_at : (i : ℕ) (w : WorkerShown) → i < length workers → but_seat (get_or after i w) ≡ but_seat (get_or workers i w)
  same_at i w low =
      sym (get_or-map but_seat after i w (but_seat w) (omega (arith, same_length)))
      ∙ ap (λ (ws : List WorkerShown). get_or ws i (but_seat w)) same
      ∙ get_or-map but_seat workers i w (but_seat w) low

  pub stay_beside : (cpus : List CpuShown) (moves : List Move) → AreBeside workers cpus → AreBeside after (map (moved_by moves) cpus)
  stay_beside cpus moves b = record {
    board = b.board;
    long = same_length ∙ b.long ∙ sym (length-map cpus (moved_by moves));
    tables = λ i w low.
        let below : i < length workers = omega (arith, same_length) in
        ap (λ (x : WorkerShown). x.board) (same_at i w below) ∙ b.tables i w below;
    numbers = λ i w low.
        let below : i < length workers = omega (arith, same_length) in
        ap (λ (x : WorkerShown). x.cpu) (same_at i w below) ∙ b.numbers i w below;
    each = λ i w seat low.
        let below : i < length workers = omega (arith, same_length) in
        let is = same_at i w below in
        let at = b.each i w seat below in
        subst (Beside (get_or after i w)) (sym (get_or-map (moved_by moves) cpus i seat seat (omega (arith, b.long))))
        (record { table = ap (λ (x : WorkerShown). x.board) is ∙ at.table; own = ap (λ (x : WorkerShown). x.cpu) is ∙ at.own; hand = at.hand });
  }

pub told_by_seats : (workers after : List WorkerShown) → map but_seat after ≡ map but_seat workers → after ≡ with_seats (seats_of after) workers
told_by_seats workers [] same = refl
told_by_seats [] (w ∷ after) same = let no : ⊥ = cc in absurd no
told_by_seats (x ∷ workers) (w ∷ after) same =
    let first : but_seat w ≡ but_seat x = ap (λ (ws : List WorkerShown). get_or ws 0 (but_seat w)) same in
    ap (λ (y : WorkerShown). record y { seat = w.seat } ∷ after) first
    ∙ ap (λ (ws : List WorkerShown). record x { seat = w.seat } ∷ ws) (told_by_seats workers after (ap (drop 1) same))

pub seats_of_with : (seats : List Seat) (workers : List WorkerShown) → length seats ≡ length workers → seats_of (with_seats seats workers) ≡ seats
seats_of_with [] workers long = refl
seats_of_with (seat ∷ seats) [] long = absurd (omega (arith, long))
seats_of_with (seat ∷ seats) (w ∷ workers) long = ap (λ (rest : List Seat). seat ∷ rest) (seats_of_with seats workers (omega (arith, long)))

-- but for their seats they are as before
pub rest_of_with : (seats : List Seat) (workers : List WorkerShown) → length seats ≡ length workers → map but_seat (with_seats seats workers) ≡ map but_seat workers
rest_of_with [] [] long = refl
rest_of_with [] (w ∷ workers) long = absurd (omega (arith, long))
rest_of_with (seat ∷ seats) [] long = absurd (omega (arith, long))
rest_of_with (seat ∷ seats) (w ∷ workers) long = ap (λ (rest : List WorkerShown). but_seat w ∷ rest) (rest_of_with seats workers (omega (arith, long)))

pub with_seat_at : (seats : List Seat) (workers : List WorkerShown) (i : ℕ) (w : WorkerShown) (seat : Seat) → i < length seats → i < length workers → get_or (with_seats seats workers) i w ≡ record (get_or workers i w) { seat = get_or seats i seat }
with_seat_at [] workers i w seat low below = absurd (omega (arith, low))
with_seat_at (s ∷ seats) [] i w seat low below = absurd (omega (arith, below))
with_seat_at (s ∷ seats) (x ∷ workers) zero w seat low below = refl
with_seat_at (s ∷ seats) (x ∷ workers) (suc i) w seat low below = with_seat_at seats workers i w seat (omega (arith, low)) (omega (arith, below))

-- ---- storage goes home

module _ (workers : List WorkerShown) (cpus : List CpuShown) (beside : AreBeside workers cpus) (given : Storage) (finds : Finds (seats_of workers) given) where
  abbrev home : ℕ
  home = home_of given

  pub home_low : home < length workers
  home_low = subst (λ (n : ℕ). home < n) (length-map workers (λ (w : WorkerShown). w.seat)) finds.low

  pub home_low_cpu : home < length cpus
  home_low_cpu = omega (arith, home_low, beside.long)

  module _ (w : WorkerShown) (seat : CpuShown) (is : w ≡ get_or workers home w) (is_cpu : seat ≡ get_or cpus home seat) where
    pub beside_home : Beside w seat
    beside_home = subst₂ Beside (sym is) (sym is_cpu) (beside.each home w seat home_low)

    pub number_home : home ≡ w.cpu
    number_home = sym (ap (λ (x : WorkerShown). x.cpu) is ∙ beside.numbers home w home_low)

    seat_is : seat_in home (seats_of workers) ≡ w.seat
    seat_is = seat_there workers home w home_low ∙ ap (λ (x : WorkerShown). x.seat) (sym is)

    pub of_node : IsOf w.seat.node given
    of_node = subst (λ (s : Seat). IsOf s.node given) seat_is finds.there

    pub seats_then : seats_of (set workers home (with_node (come_home given w.seat.node).node w)) ≡ one_in (seats_of workers) given
    seats_then =
        seats_set workers home w (record w.seat { node = (come_home given w.seat.node).node })
        ∙ ap (λ (s : Seat). set (seats_of workers) home (record s { node = (come_home given s.node).node })) (sym seat_is)

    pub rest_then : map but_seat (set workers home (with_node (come_home given w.seat.node).node w)) ≡ map but_seat workers
    rest_then = rest_set workers home w (record w.seat { node = (come_home given w.seat.node).node }) home_low is

    pub cpus_then : set cpus home (moved_by (come_home given w.seat.node).moves seat) ≡ map (moved_by (taken_in (seats_of workers) given).moves) cpus
    cpus_then =
        let moves = (taken_in (seats_of workers) given).moves in
        let node = (seat_in home (seats_of workers)).node in
        ap (λ (s : Seat). set cpus home (moved_by (come_home given s.node).moves seat)) (sym seat_is)
        ∙ ap (λ (s : CpuShown). set cpus home (moved_by moves s)) is_cpu
        ∙ sym (one_changes (moved_by moves) cpus home seat home_low_cpu
        (λ j low other.
        let below : j < length workers = omega (arith, beside.long) in
        still_elsewhere given node (get_or cpus j seat) (λ e. other (sym (beside.numbers j w below) ∙ (beside.each j w seat below).own ∙ sym e ∙ finds.own))))

-- ---- a worker's turn

pub seats_returned : (workers : List WorkerShown) (i : ℕ) (w : WorkerShown) → i < length workers → w ≡ get_or workers i w → seats_of (set workers i (with_returning [] w)) ≡ set (seats_of workers) i (none_returning (seat_in i (seats_of workers)))
seats_returned workers i w low is =
    seats_set workers i w (none_returning w.seat)
    ∙ ap (λ (s : Seat). set (seats_of workers) i (none_returning s)) (sym (seat_there workers i w low ∙ ap (λ (x : WorkerShown). x.seat) (sym is)))
