-- What a round's end asks, and what it leaves.
use Rattle.std.proofs.Common.{◌≡◌, ℕ, zero, suc, ◌+◌, ◌<◌, ◌≤◌, true, not, List, [], ◌∷◌, length, map, get_or, All, refl, sym, ap, ◌∙◌, subst, arith}
use Rattle.std.specs.Prelude.{None, filter, fold, sum_by}
use Rattle.std.specs.List.{list_any, range_with_len}
use Rattle.std.specs.Arc.{arc_value}
use Rattle.std.specs.Vec.{with_items}
use Rattle.std.proofs.lemmas.List.{get_or-map, length-map, with_items_is}
use Rattle.std.proofs.lemmas.List.FromFn.{length-map-range_with_len}
use Rattle.std.proofs.lemmas.List.Sums.{sum_by-cons}
use Rattle.module_area.specs.Area.{IsBook}
use Rattle.module_area.specs.Entries.{is_dead}
use Rattle.module_area.specs.declared.entry.Entry.{Entry}
use Rattle.tag_rule.specs.Shown.{Board, CpuShown, PassShown}
use Rattle.plant.specs.Fresh.{FitsShape}
use Rattle.reclaim.specs.Quiet.{is_unquiet}
use Rattle.reclaim.specs.State.{IsNamed, LockedShown}
use Rattle.round_keys.specs.Handed.{is_handed, without_live}
use Rattle.round_keys.specs.Stored.{IsCovered}
use Rattle.round_keys.proofs.ComingBack.{all_back, by_place}
use Rattle.round_modules.specs.Inside.{AreInside, AreNoted, outside}
use Rattle.round_modules.specs.Known.{AreCounted, AreHeld, known_area, runs_of}
use Rattle.round_worker.specs.Kept.{KeyList, live_of}
use Rattle.round_worker.specs.Parting.{AreKept}
use Rattle.round_worker.specs.Shown.{WorkerShown}
use Rattle.round_worker.specs.declared.keys.Kept.{Kept}
use Rattle.tag_section.specs.Section.{Section}
use Rattle.trace.specs.declared.traces.OnOp.{OnOp}
use Rattle.trace_play.specs.Alone.{kept, put_all, worker_done}
use Rattle.trace_play.specs.Barrier.{cpus_done, round_done}
use Rattle.trace_play.specs.Fits.{is_owner}
use Rattle.trace_play.specs.Live.{Live}
use Rattle.trace_play.specs.Machine.{Machine}
use Rattle.trace_play.proofs.Rising.{round_live}
use Rattle.trace_play.proofs.TraceFits.{seats_count}
use Rattle.trace_cover.proofs.Told.{round_last}
use Rattle.standing.specs.Standing.{CpusStand, KeysStand, ListStands, WorkersStand, standing_cpu}
use Rattle.standing.specs.Turning.{LivesAre, home_of_round}
use Rattle.standing.proofs.CpusMoved.{stand_at, stand_long}
use Rattle.standing.proofs.EndMet as end_met
use Rattle.rounds.specs.Turns.{IsTurned, StandsAt, Turn, first, known_in}
use Rattle.rounds.specs.declared.turning.Turned.{Turned}

-- ---- the table's CPUs

module _ (b : Board) (m : Machine) (cpus : List CpuShown) (s : CpusStand b m cpus) where
  pub tables : All (λ (c : CpuShown). c.board ≡ b) cpus
  tables i d low = ap (λ (c : CpuShown). c.board) (stand_at b m cpus i d s low)

  pub no_hands : All (λ (c : CpuShown). c.part.hand ≡ None) cpus
  no_hands i d low = ap (λ (c : CpuShown). c.part.hand) (stand_at b m cpus i d s low)

  pub numbers : map (λ (c : CpuShown). c.part.number) cpus ≡ range_with_len 0 b.shape.cpus
  numbers = sym (of_outside cpus) ∙ ap (map (λ (c : CpuShown). c.part.number)) s ∙ of_standing (range_with_len 0 b.shape.cpus)
    where
      of_outside : (cs : List CpuShown) → map (λ (c : CpuShown). c.part.number) (map outside cs) ≡ map (λ (c : CpuShown). c.part.number) cs
      of_outside [] = refl
      of_outside (c ∷ cs) = ap (λ ns. c.part.number ∷ ns) (of_outside cs)

      of_standing : (ns : List ℕ) → map (λ (c : CpuShown). c.part.number) (map (standing_cpu b m) ns) ≡ ns
      of_standing [] = refl
      of_standing (n ∷ ns) = ap (λ rest. n ∷ rest) (of_standing ns)

-- ---- workers without keys

none_left : (workers : List WorkerShown) → All (λ (w : WorkerShown). w.live ≡ []) (map without_live workers)
none_left workers i d low =
    ap (λ (w : WorkerShown). w.live) (get_or-map without_live workers i d d (let long = length-map workers without_live in omega (arith, low, long)))

boards_left : (b : Board) (workers : List WorkerShown) → All (λ (w : WorkerShown). w.board ≡ b) workers → All (λ (w : WorkerShown). w.board ≡ b) (map without_live workers)
boards_left b [] all = λ i d low. absurd (omega (arith, low))
boards_left b (w ∷ workers) all = by (boards_left b workers (λ i d low. all (suc i) d (omega (arith, low))))
  where
    by : All (λ (x : WorkerShown). x.board ≡ b) (map without_live workers) → (i : ℕ) (d : WorkerShown) → i < length (map without_live (w ∷ workers)) → (get_or (map without_live (w ∷ workers)) i d).board ≡ b
    by rest zero d low = all 0 w (omega arith)
    by rest (suc i) d low = rest i d (omega (arith, low))

maps_left : {A : Type 0} (f : WorkerShown → A) → ((w : WorkerShown) → f (without_live w) ≡ f w) → (workers : List WorkerShown) → map f (map without_live workers) ≡ map f workers
maps_left f same [] = refl
maps_left f same (w ∷ workers) = λ i. same w i ∷ maps_left f same workers i

sums_left : (f : WorkerShown → ℕ) → ((w : WorkerShown) → f (without_live w) ≡ f w) → (workers : List WorkerShown) → sum_by f (map without_live workers) ≡ sum_by f workers
sums_left f same [] = refl
sums_left f same (w ∷ workers) =
    let rest = sums_left f same workers in
    sum_by-cons f (without_live w) (map without_live workers) ∙ (λ i. same w i + rest i) ∙ sym (sum_by-cons f w workers)

pub left_stand : (b : Board) (m : Machine) (workers : List WorkerShown) → WorkersStand b m workers → WorkersStand b m (map without_live workers)
left_stand b m workers w = record {
  seats = maps_left (λ (x : WorkerShown). x.seat) (λ x. refl) workers ∙ w.seats;
  boards = boards_left b workers w.boards;
  numbers = maps_left (λ (x : WorkerShown). x.cpu) (λ x. refl) workers ∙ w.numbers;
  failed = sums_left (λ (x : WorkerShown). x.failed) (λ x. refl) workers ∙ w.failed;
  uncounted = sums_left (λ (x : WorkerShown). x.uncounted) (λ x. refl) workers ∙ w.uncounted;
}

-- the barrier's last step changes the modules alone
pub cleaned_stand : (ops : List OnOp) (b : Board) (m : Machine) (workers : List WorkerShown) → WorkersStand b (home_of_round ops m) workers → WorkersStand b (round_done ops m) workers
cleaned_stand ops b m workers w = record { seats = w.seats; boards = w.boards; numbers = w.numbers; failed = w.failed; uncounted = w.uncounted }

-- ---- a round's end

module _ (t : Turn) where
  abbrev begins : Machine
  begins = first t

  abbrev lives : ℕ → Live
  lives cpu = (worker_done (is_owner t.round.after) t.ops begins cpu).live

  pub many : (workers : List WorkerShown) → LivesAre (is_owner t.round.after) t.ops begins workers → length workers ≡ t.trace.cpus
  many workers l = seats_long workers l ∙ seats_count t.trace t.top t.round.round.front
    where
      seats_long : (ws : List WorkerShown) → LivesAre (is_owner t.round.after) t.ops begins ws → length ws ≡ length begins.seats
      seats_long ws l = sym (length-map ws (λ (w : WorkerShown). w.live)) ∙ ap length l ∙ length-map-range_with_len lives 0 (length begins.seats)

  pub inside_some : (cpus : List CpuShown) (m : Machine) (workers : List WorkerShown) → FitsShape t.board.shape t.trace → CpusStand t.board m cpus → LivesAre (is_owner t.round.after) t.ops begins workers → (1 ≤ length workers) × (length workers ≤ length cpus)
  inside_some cpus m workers room s l =
      let count = many workers l in
      let long = stand_long t.board m cpus s in
      (omega (arith, count, t.round.formed.cpus.0), omega (arith, count, long, room.cpus))

  pub within : FitsShape t.board.shape t.trace → t.board.shape.kernel_tags + t.trace.area ≤ t.board.shape.tags
  within room = omega (arith, room.kernel, room.area)

  pub came_back : (keys after : KeyList) (workers : List WorkerShown) → live_of keys ≡ kept (λ key. not (is_handed t.ops key)) begins.live → LivesAre (is_owner t.round.after) t.ops begins workers
      → live_of after ≡ fold (λ into (w : WorkerShown). put_all into w.live) (live_of keys) workers → live_of after ≡ (cpus_done t.ops begins).live
  came_back keys after workers left l e =
      let count : length begins.seats ≡ length workers = seats_count t.trace t.top t.round.round.front ∙ sym (many workers l) in
      e
      ∙ by_place lives workers 0 (live_of keys) (l ∙ ap (λ n. map lives (range_with_len 0 n)) count)
      ∙ ap (λ n. fold (λ into cpu. put_all into (lives cpu)) (live_of keys) (range_with_len 0 n)) (sym count)
      ∙ ap (λ into. fold (λ into cpu. put_all into (lives cpu)) into (range_with_len 0 (length begins.seats))) left
      ∙ all_back t.trace t.top t.ops t.round.before t.round.after t.round.formed t.round.passes t.round.round t.round.none t.round.walked

  -- the module list, as the round's end asks and leaves it
  module _ (cpus : List CpuShown) (room : FitsShape t.board.shape t.trace) (s : CpusStand t.board (home_of_round t.ops begins) cpus) where
    pub book : IsBook (known_area t.board.shape t.trace.area (known_in t)) × All (λ (e : Entry). e.users ≡ 0) (known_in t) × All (IsNamed t.trace.sections) (known_in t)
    book = end_met.book t.trace t.top t.ops t.round t.board room

    pub met : (l : LockedShown) (keys : KeyList) → live_of keys ≡ (cpus_done t.ops begins).live → (list_any (λ (e : Entry). is_dead e.state) (known_in t) ≡ true → All (λ (entry : ℕ × Kept). IsCovered l entry.1) keys)
        → AreHeld cpus l.area.entries (known_in t) × AreCounted cpus t.board.shape.kernel_tags l.area.entries (known_in t)
    met l keys live told = end_met.met t.trace t.top t.ops t.round t.board room cpus s l keys live told

    pub list_stands : (l : LockedShown) (pass : PassShown) → l.board ≡ t.board → l.area ≡ known_area t.board.shape t.trace.area (filter (is_unquiet cpus) (known_in t)) → l.sections ≡ t.trace.sections
        → pass ≡ record { board = t.board; next = begins.last_id + 1 } → ListStands t.board (round_done t.ops begins) t.trace.sections l pass
    list_stands l pass board area sections next = record {
      board = board;
      area = area ∙ end_met.kept t.trace t.top t.ops t.round t.board room cpus s;
      sections_are = sections;
      next = next ∙ ap (λ n. let p : PassShown = record { board = t.board; next = n + 1 } in p) (sym (round_last t.ops begins));
    }

  pub keys_stand : (keys : KeyList) → live_of keys ≡ (cpus_done t.ops begins).live → AreKept t.board keys → KeysStand t.board (round_done t.ops begins) keys
  keys_stand keys live own = record { live = live ∙ sym (round_live t.ops begins); kept = own }

-- ---- a desk behind a round's lanes

module _ (t : Turn) (d : Turned) (is : IsTurned t d) (cpus : List CpuShown) (known : List Entry) (l : LockedShown)
    (cpus_are : cpus ≡ d.desk.cpus.items) (known_are : known ≡ d.known.items) (l_is : l ≡ d.desk.locked) where
  abbrev home : Machine
  home = home_of_round t.ops (first t)

  stand : CpusStand t.board home cpus
  stand = subst (CpusStand t.board home) (sym cpus_are) is.cpus

  board_is : l.board ≡ t.board
  board_is = ap (λ (x : LockedShown). x.board) l_is ∙ is.beside.list

  modules_are : known ≡ known_in t
  modules_are = known_are ∙ is.known_is

  pub asks_tables : (d.desk.pass.board ≡ l.board) × All (λ (c : CpuShown). c.board ≡ l.board) cpus
  asks_tables = (ap (λ (p : PassShown). p.board) is.beside.next ∙ sym board_is, λ i x low. tables t.board home cpus stand i x low ∙ sym board_is)

  pub asks_all : map (λ (c : CpuShown). c.part.number) cpus ≡ range_with_len 0 l.board.shape.cpus
  asks_all = numbers t.board home cpus stand ∙ ap (λ (b : Board). range_with_len 0 b.shape.cpus) (sym board_is)

  pub asks_hands : All (λ (c : CpuShown). c.part.hand ≡ None) cpus
  asks_hands = no_hands t.board home cpus stand

  pub asks_some : (n : ℕ) → n ≡ length d.desk.workers.items → (1 ≤ n) × (n ≤ length cpus)
  asks_some n e = let some = inside_some t cpus home d.desk.workers.items is.beside.room stand is.lives in (omega (arith, e, some.0), omega (arith, e, some.1))

  pub asks_inside : (n : ℕ) → n ≡ length d.desk.workers.items → AreInside n (runs_of known) cpus
  asks_inside n e =
      let count : t.trace.cpus ≡ n = sym (e ∙ many t d.desk.workers.items is.lives) in
      let modules = sym modules_are in
      let same = sym cpus_are in
      subst (λ (x : ℕ × List Entry × List CpuShown). AreInside x.0 (runs_of x.1) x.2) (λ i. (count i, modules i, same i)) is.beside.inside

  pub asks_noted : AreNoted known cpus
  asks_noted =
      let modules = sym modules_are in
      let same = sym cpus_are in
      subst (λ (x : List Entry × List CpuShown). AreNoted x.0 x.1) (λ i. (modules i, same i)) is.beside.noted

  pub asks_book : IsBook (known_area l.board.shape d.desk.tags known)
  asks_book =
      let board = sym board_is in
      let tags = sym is.beside.tags_are in
      let modules = sym modules_are in
      subst (λ (x : Board × ℕ × List Entry). IsBook (known_area x.0.shape x.1 x.2)) (λ i. (board i, tags i, modules i)) (book t cpus is.beside.room stand).0

  pub asks_users : All (λ (e : Entry). e.users ≡ 0) known
  asks_users = subst (All (λ (e : Entry). e.users ≡ 0)) (sym modules_are) (book t cpus is.beside.room stand).1

  pub asks_named : (sections : List Section) → sections ≡ arc_value d.desk.sections → All (IsNamed sections) known
  asks_named sections e =
      let given = sym (e ∙ is.beside.sections_are) in
      let modules = sym modules_are in
      subst (λ (x : List Section × List Entry). All (IsNamed x.0) x.1) (λ i. (given i, modules i)) (book t cpus is.beside.room stand).2

  pub asks_within : l.board.shape.kernel_tags + d.desk.tags ≤ l.board.shape.tags
  asks_within = let board = sym board_is in let tags = sym is.beside.tags_are in subst (λ (x : Board × ℕ). x.0.shape.kernel_tags + x.1 ≤ x.0.shape.tags) (λ i. (board i, tags i)) (within t is.beside.room)

  module _ (keys : KeyList) (back : live_of keys ≡ fold (λ into (w : WorkerShown). put_all into w.live) (live_of d.desk.keys) d.desk.workers.items) where
    live_is : live_of keys ≡ (cpus_done t.ops (first t)).live
    live_is = came_back t d.desk.keys keys d.desk.workers.items is.beside.keys is.lives back

    pub asks_met : (given : List Entry) → given ≡ d.known.items → (list_any (λ (e : Entry). is_dead e.state) given ≡ true → All (λ (entry : ℕ × Kept). IsCovered d.desk.locked entry.1) keys)
        → AreHeld cpus l.area.entries known × AreCounted cpus l.board.shape.kernel_tags l.area.entries known
    asks_met given e told =
        let told_in : list_any (λ (x : Entry). is_dead x.state) (known_in t) ≡ true → All (λ (entry : ℕ × Kept). IsCovered d.desk.locked entry.1) keys = λ some. told (ap (list_any (λ (x : Entry). is_dead x.state)) (e ∙ is.known_is) ∙ some) in
        let m = met t cpus is.beside.room stand d.desk.locked keys live_is told_in in
        let board = sym board_is in
        let list = sym l_is in
        let modules = sym modules_are in
        subst (λ (x : Board × LockedShown × List Entry). AreHeld cpus x.1.area.entries x.2 × AreCounted cpus x.0.shape.kernel_tags x.1.area.entries x.2) (λ i. (board i, list i, modules i)) m

    pub stands : (cpus_then : List CpuShown) (workers : List WorkerShown) (l_then : LockedShown) (pass : PassShown)
        → map outside cpus_then ≡ map outside cpus → All (λ (c : CpuShown). c.part.runs ≡ []) cpus_then → workers ≡ map without_live d.desk.workers.items → AreKept t.board keys
        → l_then.board ≡ l.board → l_then.area ≡ known_area l.board.shape d.desk.tags (filter (is_unquiet cpus) known) → l_then.sections ≡ arc_value d.desk.sections → pass ≡ d.desk.pass
        → StandsAt t.board t.trace (round_done t.ops (first t)) (record d.desk { cpus = with_items d.desk.cpus cpus_then; workers = with_items d.desk.workers workers; keys = keys; locked = l_then; pass = pass })
    stands cpus_then workers l_then pass rest out left own board area sections same =
        let cpus_long : length cpus_then ≡ d.desk.cpus.len = sym (length-map cpus_then outside) ∙ ap length rest ∙ length-map cpus outside ∙ ap length cpus_are ∙ sym d.desk.cpus.ok.0 in
        let workers_long : length workers ≡ d.desk.workers.len = ap (λ (ws : List WorkerShown). length ws) left ∙ length-map d.desk.workers.items without_live ∙ sym d.desk.workers.ok.0 in
        let cpus_new = sym (with_items_is d.desk.cpus cpus_then cpus_long) in
        let workers_new = sym (with_items_is d.desk.workers workers workers_long ∙ left) in
        let at = sym board_is in
        record {
          room = is.beside.room;
          cpus = subst (CpusStand t.board home) cpus_new (rest ∙ stand);
          outside = subst (All (λ (c : CpuShown). c.part.runs ≡ [])) cpus_new out;
          workers = subst (WorkersStand t.board (round_done t.ops (first t))) workers_new (cleaned_stand t.ops t.board (first t) (map without_live d.desk.workers.items) (left_stand t.board home d.desk.workers.items is.workers));
          none = subst (All (λ (w : WorkerShown). w.live ≡ [])) workers_new (none_left d.desk.workers.items);
          keys = keys_stand t keys live_is own;
          list = list_stands t cpus is.beside.room stand l_then pass (board ∙ board_is) (area ∙ area_is) (sections ∙ is.beside.sections_are) (same ∙ is.beside.next);
          sections_are = is.beside.sections_are;
          tags_are = is.beside.tags_are;
        }
      where
        area_is : known_area l.board.shape d.desk.tags (filter (is_unquiet cpus) known) ≡ known_area t.board.shape t.trace.area (filter (is_unquiet cpus) (known_in t))
        area_is = λ i. known_area (board_is i).shape (is.beside.tags_are i) (filter (is_unquiet cpus) (modules_are i))
