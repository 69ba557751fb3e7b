-- What holds while storage goes home, one after the other.
use Rattle.std.proofs.Common.{◌≡◌, ℕ, suc, ◌<◌, ◌≤◌, List, [], ◌∷◌, length, map, set, get_or, All, refl, sym, ap, ◌∙◌, subst, subst₂, arith}
use Rattle.std.proofs.lemmas.List.{length-map}
use Rattle.std.proofs.lemmas.List.Elements.{All-head, All-tail}
use Rattle.tag_rule.specs.Shown.{Board, CpuShown}
use Rattle.tag_model.specs.Moves.{Move}
use Rattle.tag_ref.specs.Refs.{moved_by}
use Rattle.slab_cache.specs.Storage.{Storage}
use Rattle.trace_play.specs.Barrier.{all_home}
use Rattle.trace_play.specs.Machine.{Machine}
use Rattle.trace_play.specs.Worker.{Seat}
use Rattle.round_worker.specs.declared.worker.Going.{Going}
use Rattle.round_worker.specs.Shown.{WorkerShown}
use Rattle.round_worker.specs.Working.{IsGoing, going_storage, with_returning}
use Rattle.homing.specs.Seats.{seat_in, taken_in, one_in, all_in, moves_in, AllFind, seats_home, home_moves, FindsHome}
use Rattle.homing.specs.Workers.{AreBeside, but_seat, seats_of, with_seats}
use Rattle.homing.proofs.CpuLemmas.{all_moved_by_both, none_moved}
use Rattle.homing.proofs.SeatLemmas.{NoneBelow, none_from, can_go, turn, over, all_home_told}
use Rattle.homing.proofs.WorkerLemmas.{rest_set, same_at, same_length, seats_returned, seat_there, stay_beside, told_by_seats}

abbrev pub storage_of_all : List Going → List Storage
storage_of_all going = map going_storage going

-- each is of the table
abbrev pub OfTable : List Going → List WorkerShown → Type 0
OfTable going workers = All (λ (w : WorkerShown). All (IsGoing w.board) going) workers

stays : (workers after : List WorkerShown) (cpus : List CpuShown) → map but_seat after ≡ map but_seat workers → AreBeside workers cpus → AreBeside after cpus
stays workers after cpus same b = subst (AreBeside after) (none_moved cpus) (stay_beside workers after same cpus [] b)

of_table_stays : (workers after : List WorkerShown) (going : List Going) → map but_seat after ≡ map but_seat workers → OfTable going workers → OfTable going after
of_table_stays workers after going same all i w low =
    let long = same_length workers after same in
    let below : i < length workers = omega (arith, long) in
    subst (λ (x : WorkerShown). All (IsGoing x.board) going) (sym (same_at workers after same i w below)) (all i w below)

-- ---- some storage: what is left goes home from here as all does from the start

pub record Bringing (start : List WorkerShown) (start_cpus : List CpuShown) (all : List Storage) (rest : List Going) (workers : List WorkerShown) (cpus : List CpuShown) : Type 0 where
  pub beside : AreBeside workers cpus
  pub table : OfTable rest workers
  pub finds : AllFind (seats_of workers) (storage_of_all rest)
  pub home : all_in (seats_of workers) (storage_of_all rest) ≡ all_in (seats_of start) all
  pub same : map but_seat workers ≡ map but_seat start
  pub moved : map (moved_by (moves_in (seats_of workers) (storage_of_all rest))) cpus ≡ map (moved_by (moves_in (seats_of start) all)) start_cpus

module _ (start : List WorkerShown) (start_cpus : List CpuShown) (all : List Storage) where
  pub brings_one : (one : Going) (rest : List Going) (workers after : List WorkerShown) (cpus cpus_after : List CpuShown) → Bringing start start_cpus all (one ∷ rest) workers cpus
      → seats_of after ≡ one_in (seats_of workers) (going_storage one) → map but_seat after ≡ map but_seat workers → cpus_after ≡ map (moved_by (taken_in (seats_of workers) (going_storage one)).moves) cpus
      → Bringing start start_cpus all rest after cpus_after
  brings_one one rest workers after cpus cpus_after b seats same moved =
      let moves = (taken_in (seats_of workers) (going_storage one)).moves in
      record {
        beside = subst (AreBeside after) (sym moved) (stay_beside workers after same cpus moves b.beside);
        table = of_table_stays workers after rest same (λ i w low. All-tail (IsGoing (get_or workers i w).board) one rest (b.table i w low));
        finds = subst (λ (s : List Seat). AllFind s (storage_of_all rest)) (sym seats) b.finds.1;
        home = ap (λ (s : List Seat). all_in s (storage_of_all rest)) seats ∙ b.home;
        same = same ∙ b.same;
        moved = ap (λ (s : List Seat). map (moved_by (moves_in s (storage_of_all rest))) cpus_after) seats
            ∙ ap (map (moved_by (moves_in (one_in (seats_of workers) (going_storage one)) (storage_of_all rest)))) moved
            ∙ sym (all_moved_by_both moves (moves_in (one_in (seats_of workers) (going_storage one)) (storage_of_all rest)) cpus)
            ∙ b.moved;
      }

  pub one_of_table : (one : Going) (rest : List Going) (workers : List WorkerShown) → OfTable (one ∷ rest) workers → All (λ (w : WorkerShown). IsGoing w.board one) workers
  one_of_table one rest workers all i w low = All-head (IsGoing (get_or workers i w).board) one rest (all i w low)

-- ---- the workers' turns

pub record Turned (start : List WorkerShown) (start_cpus : List CpuShown) (next : ℕ) (workers : List WorkerShown) (cpus : List CpuShown) : Type 0 where
  pub beside : AreBeside workers cpus
  pub finds : FindsHome (seats_of workers)
  pub home : seats_home (seats_of workers) ≡ seats_home (seats_of start)
  pub below : NoneBelow next (seats_of workers)
  pub same : map but_seat workers ≡ map but_seat start
  pub moved : map (moved_by (home_moves (seats_of workers))) cpus ≡ map (moved_by (home_moves (seats_of start))) start_cpus

pub none_turned : (workers : List WorkerShown) (cpus : List CpuShown) → AreBeside workers cpus → FindsHome (seats_of workers) → Turned workers cpus 0 workers cpus
none_turned workers cpus beside finds = record { beside = beside; finds = finds; home = refl; below = refl; same = refl; moved = refl }

module _ (start : List WorkerShown) (start_cpus : List CpuShown) (next : ℕ) (workers : List WorkerShown) (cpus : List CpuShown) (turned : Turned start start_cpus next workers cpus) (w : WorkerShown) (low : next < length workers) (is : w ≡ get_or workers next w) where
  -- the workers once this one has handed out what it freed of other nodes
  abbrev handed : List WorkerShown
  handed = set workers next (with_returning [] w)

  seats_handed : seats_of handed ≡ none_from next (seats_of workers)
  seats_handed = seats_returned workers next w low is

  seat_is : seat_in next (seats_of workers) ≡ w.seat
  seat_is = seat_there workers next w low ∙ ap (λ (x : WorkerShown). x.seat) (sym is)

  handed_same : map but_seat handed ≡ map but_seat workers
  handed_same = rest_set workers next w (record w.seat { returning = [] }) low is

  low_seat : next < length (seats_of workers)
  low_seat = subst (λ (n : ℕ). next < n) (sym (length-map workers (λ (w : WorkerShown). w.seat))) low

  pub handed_beside : AreBeside handed cpus
  handed_beside = stays workers handed cpus handed_same turned.beside

  pub handed_table : (going : List Going) → All (IsGoing w.board) going → OfTable going handed
  handed_table going are i x small =
      let long = same_length workers handed handed_same in
      let below : i < length workers = omega (arith, long) in
      let board = ap (λ (y : WorkerShown). y.board) (same_at workers handed handed_same i x below) ∙ turned.beside.tables i x below in
      let own : w.board ≡ turned.beside.board = ap (λ (y : WorkerShown). y.board) is ∙ turned.beside.tables next w low in
      subst (λ (b : Board). All (IsGoing b) going) (own ∙ sym board) are

  pub handed_find : (storage : List Storage) → storage ≡ w.seat.returning → AllFind (seats_of handed) storage
  handed_find storage e =
      subst₂ AllFind (sym seats_handed) (ap (λ (s : Seat). s.returning) seat_is ∙ sym e) (can_go (seats_of workers) next low_seat turned.below turned.finds)

  pub turns : (storage : List Storage) (after : List WorkerShown) (cpus_after : List CpuShown) → storage ≡ w.seat.returning
      → seats_of after ≡ all_in (seats_of handed) storage → map but_seat after ≡ map but_seat handed → cpus_after ≡ map (moved_by (moves_in (seats_of handed) storage)) cpus
      → Turned start start_cpus (suc next) after cpus_after
  turns storage after cpus_after e seats same moved =
      let seats_now = seats_of workers in
      let sends = (seat_in next seats_now).returning in
      let gone : storage ≡ sends = e ∙ sym (ap (λ (s : Seat). s.returning) seat_is) in
      let moves = moves_in (seats_of handed) storage in
      let all_moves : moves ≡ moves_in (none_from next seats_now) sends = ap (λ (s : List Seat). moves_in s storage) seats_handed ∙ ap (moves_in (none_from next seats_now)) gone in
      let left : seats_of after ≡ all_in (none_from next seats_now) sends = seats ∙ ap (λ (s : List Seat). all_in s storage) seats_handed ∙ ap (all_in (none_from next seats_now)) gone in
      let t = turn seats_now next low_seat turned.below turned.finds in
      record {
        beside = subst (AreBeside after) (sym moved) (stay_beside handed after same cpus moves handed_beside);
        finds = subst FindsHome (sym left) t.finds;
        home = ap seats_home left ∙ t.home ∙ turned.home;
        below = subst (NoneBelow (suc next)) (sym left) t.below;
        same = same ∙ handed_same ∙ turned.same;
        moved = ap (λ (s : List Seat). map (moved_by (home_moves s)) cpus_after) left
            ∙ ap (map (moved_by (home_moves (all_in (none_from next seats_now) sends)))) (moved ∙ ap (λ (m : List Move). map (moved_by m) cpus) all_moves)
            ∙ sym (all_moved_by_both (moves_in (none_from next seats_now) sends) (home_moves (all_in (none_from next seats_now) sends)) cpus)
            ∙ ap (λ (m : List Move). map (moved_by m) cpus) (sym t.moves)
            ∙ turned.moved;
      }

-- ---- behind all turns

module _ (start : List WorkerShown) (start_cpus : List CpuShown) (count : ℕ) (workers : List WorkerShown) (cpus : List CpuShown) (turned : Turned start start_cpus count workers cpus) (all : length workers ≤ count) where
  few : length (seats_of workers) ≤ count
  few = subst (λ (n : ℕ). n ≤ count) (sym (length-map workers (λ (w : WorkerShown). w.seat))) all

  pub seats_are : seats_of workers ≡ seats_home (seats_of start)
  seats_are = sym (over (seats_of workers) count few turned.below).home ∙ turned.home

  pub workers_are : workers ≡ with_seats (seats_home (seats_of start)) start
  workers_are = told_by_seats start workers turned.same ∙ ap (λ (s : List Seat). with_seats s start) seats_are

  pub as_the_machine : (m : Machine) → m.seats ≡ seats_of start → seats_of workers ≡ (all_home m).seats
  as_the_machine m e = seats_are ∙ ap seats_home (sym e) ∙ ap (λ (x : Machine). x.seats) (sym (all_home_told m))

  pub cpus_are : cpus ≡ map (moved_by (home_moves (seats_of start))) start_cpus
  cpus_are =
      sym (none_moved cpus)
      ∙ ap (λ (m : List Move). map (moved_by m) cpus) (sym (over (seats_of workers) count few turned.below).moves)
      ∙ turned.moved
