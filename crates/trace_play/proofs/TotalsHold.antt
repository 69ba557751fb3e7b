-- In a checked trace what was added under each tag is what was taken away and what is live.
use Rattle.std.proofs.Common.{◌≡◌, ◌≢◌, ℕ, zero, suc, ◌+◌, ◌<◌, T, List, [], ◌∷◌, ◌++◌, length, map, set, get_or, replicate, Option, Some, None, Ok, refl, sym, ap, ◌∙◌, subst, arith, set-set}
use Rattle.std.specs.Prelude.{fold, sum_by}
use Rattle.std.specs.List.{flat_map, enumerate_from, range_with_len}
use Rattle.std.proofs.lemmas.Grind.{get_or-set_at}
use Rattle.std.proofs.lemmas.List.{length-set, set-get_or}
use Rattle.std.proofs.lemmas.List.Sums.{sum_by-cons, sum_by-append, sum_by-set}
use Rattle.tag_model.specs.declared.state.Held.{Held}
use Rattle.tag_model.specs.declared.state.Kind.{Kind}
use Rattle.tag_model.specs.Index.{Slot}
use Rattle.tag_model.specs.Reference.{held_counts, live_total}
use Rattle.tag_model.specs.RefMoves.{all_up, all_down}
use Rattle.module_area.specs.declared.entry.Entry.{Entry}
use Rattle.slab_cache.specs.Slabs.{Slab, NodeState}
use Rattle.slab_cache.specs.Storage as storage
use Rattle.slab_cache.specs.Storage.{Storage, home_of}
use Rattle.slab_cache.specs.Homing.{come_home}
use Rattle.trace.specs.declared.traces.Item.{Item}
use Rattle.trace.specs.declared.traces.Item.TheVariants as item
use Rattle.trace.specs.declared.traces.OnOp.{OnOp}
use Rattle.trace.specs.declared.traces.Trace.{Trace}
use Rattle.trace.specs.declared.traces.TraceOp.{TraceOp}
use Rattle.trace.specs.declared.traces.TraceOp.TheVariants as op
use Rattle.trace.specs.Formed.{IsFormedItem, IsFormedTrace}
use Rattle.round_check.specs.declared.walk.Walk.{Walk}
use Rattle.round_check.specs.Formed.{FitsItem}
use Rattle.round_check.specs.Walk.{begun, walk_item, rounds_of}
use Rattle.trace_play.specs.Live.{Content, Nothing, Stored, Live}
use Rattle.trace_play.specs.Worker.{Seat, WorkerState, done, all_done}
use Rattle.trace_play.specs.Machine.{Machine, machine_of, fresh_seat, seat_at, worker_at, with_worker, content_cell, slab_cell, slab_cells, live_cells}
use Rattle.trace_play.specs.Barrier.{ops_of, cpus_done, module_done, modules_done, on_its_way, none_returning, none_on_its_way, storage_home, all_home, round_done}
use Rattle.trace_play.specs.Play.{Played, item_played, played_so_far}
use Rattle.trace_play.specs.Alone.{rises}
use Rattle.trace_play.specs.Fits.{AllFit}
use Rattle.trace_play.specs.Owned.{slabs_sum}
use Rattle.trace_play.specs.Sound.{IsSound}
use Rattle.trace_play.proofs.AloneLemmas.{holds}
use Rattle.trace_play.proofs.Rising.{fold_keeps, modules_live, worker_rises}
use Rattle.trace_play.proofs.WorkerSound.{AllSound, worker_sum, step_sound}
use Rattle.trace_play.proofs.MachineSound.{elsewhere, to_worker, turns, item_sound, first_sound, after_items, OnTheWay, home_low, one_home, sets_out, same_parts, barrier_sound}
use Rattle.trace_play.proofs.TraceFits.{Between, fits_of_round, modules_seats}
use Rattle.trace_play.proofs.Accounted.{slab_counts, node_counts, counts, live_counts, Accounts, home_counts, step_accounts, ups, downs}

module _ (kind : Kind) (t : ℕ) where
  -- ---- the references by cell

  abbrev weigh : Slot × Held → ℕ
  weigh entry = held_counts kind t entry.1

  sum_flat : {X : Type 0} (f : X → List (Slot × Held)) (xs : List X) → sum_by weigh (flat_map f xs) ≡ sum_by (λ x. sum_by weigh (f x)) xs
  sum_flat f [] = refl
  sum_flat f (x ∷ xs) = sum_by-append weigh (f x) (flat_map f xs) ∙ ap (λ n. sum_by weigh (f x) + n) (sum_flat f xs) ∙ sym (sum_by-cons (λ x. sum_by weigh (f x)) x xs)

  one_content : (content : Content) → sum_by weigh (content_cell content) ≡ counts kind t 0 content
  one_content (Nothing order) = refl
  one_content (Stored (storage.Pages block)) = omega arith
  one_content (Stored (storage.Object home frame place vector holds)) = omega arith
  one_content (Stored (storage.Uncounted home frame place)) = refl

  live_cells_count : (live : Live) → sum_by weigh (flat_map (λ (entry : ℕ × Content). content_cell entry.1) live) ≡ live_counts kind t 0 live
  live_cells_count [] = refl
  live_cells_count (e ∷ live) =
      sum_by-append weigh (content_cell e.1) (flat_map (λ (entry : ℕ × Content). content_cell entry.1) live)
      ∙ (λ i. one_content e.1 i + live_cells_count live i)
      ∙ sym (sum_by-cons (λ (x : ℕ × Content). counts kind t 0 x.1) e live)

  one_slab : (cpu from : ℕ) (slab : Option Slab) → sum_by weigh (slab_cell cpu from slab) ≡ slab_counts kind t from slab
  one_slab cpu from None = refl
  one_slab cpu from (Some slab) = omega arith

  slabs_count : (cpu : ℕ) (slabs : List (Option Slab)) (from : ℕ) → sum_by weigh (flat_map (λ (entry : ℕ × Option Slab). slab_cell cpu entry.0 entry.1) (enumerate_from from slabs)) ≡ slabs_sum (slab_counts kind t) from slabs
  slabs_count cpu [] from = refl
  slabs_count cpu (slab ∷ slabs) from =
      sum_by-append weigh (slab_cell cpu from slab) (flat_map (λ (entry : ℕ × Option Slab). slab_cell cpu entry.0 entry.1) (enumerate_from (from + 1) slabs))
      ∙ (λ i. one_slab cpu from slab i + slabs_count cpu slabs (from + 1) i)

  abbrev seats_count : List Seat → ℕ
  seats_count seats = sum_by (λ (seat : Seat). node_counts kind t seat.node) seats

  seat_cells_count : (seats : List Seat) → sum_by weigh (flat_map (λ (seat : Seat). slab_cells seat.node) seats) ≡ seats_count seats
  seat_cells_count [] = refl
  seat_cells_count (seat ∷ seats) =
      sum_by-append weigh (slab_cells seat.node) (flat_map (λ (s : Seat). slab_cells s.node) seats)
      ∙ (λ i. slabs_count seat.node.node.cpu seat.node.slabs 0 i + seat_cells_count seats i)
      ∙ sym (sum_by-cons (λ (s : Seat). node_counts kind t s.node) seat seats)

  cells_count : (m : Machine) → live_total kind t (live_cells m) ≡ live_counts kind t 0 m.live + seats_count m.seats
  cells_count m =
      sum_by-append weigh (flat_map (λ (entry : ℕ × Content). content_cell entry.1) m.live) (flat_map (λ (seat : Seat). slab_cells seat.node) m.seats)
      ∙ (λ i. live_cells_count m.live i + seat_cells_count m.seats i)

  -- ---- a machine

  abbrev pub Totals : Machine → Type 0
  Totals m = all_up kind t m.tally.moves ≡ all_down kind t m.tally.moves + (live_counts kind t 0 m.live + seats_count m.seats)

  pub accounted : (m : Machine) → Totals m → all_up kind t m.tally.moves ≡ all_down kind t m.tally.moves + live_total kind t (live_cells m)
  accounted m h = h ∙ ap (λ n. all_down kind t m.tally.moves + n) (sym (cells_count m))

  -- the slabs of the other nodes
  abbrev others_count : Machine → ℕ → ℕ
  others_count m cpu = seats_count (set m.seats cpu (fresh_seat 0 0 cpu))

  with_seat_count : (m : Machine) (cpu : ℕ) (seat : Seat) → cpu < length m.seats → seats_count (set m.seats cpu seat) ≡ node_counts kind t seat.node + others_count m cpu
  with_seat_count m cpu seat below =
      let none = fresh_seat 0 0 cpu in
      let base = set m.seats cpu none in
      let long : length base ≡ length m.seats = length-set m.seats cpu none in
      let s = sum_by-set (λ (x : Seat). node_counts kind t x.node) base cpu seat none (omega arith) in
      let here : get_or base cpu none ≡ none = get_or-set_at m.seats cpu cpu none none refl below in
      let zero_here : node_counts kind t (get_or base cpu none).node ≡ 0 = ap (λ (x : Seat). node_counts kind t x.node) here in
      let same : seats_count (set base cpu seat) ≡ seats_count (set m.seats cpu seat) = ap seats_count (set-set m.seats cpu none seat) in
      omega arith

  seat_there_count : (m : Machine) (cpu : ℕ) → cpu < length m.seats → seats_count m.seats ≡ node_counts kind t (seat_at cpu m).node + others_count m cpu
  seat_there_count m cpu below = ap seats_count (sym (set-get_or m.seats cpu (fresh_seat 0 0 cpu))) ∙ with_seat_count m cpu (seat_at cpu m) below

  -- ---- a CPU's turn

  all_account : (cpu count rest : ℕ) (nodes : ℕ → NodeState) (els : (Storage → ℕ) → ℕ) (below : cpu < count) (are : (h : ℕ) → h < count → h ≢ cpu → (nodes h).node.cpu ≡ h)
      → (entries : List Entry) (ops : List TraceOp) (w : WorkerState) → T (rises w.live) → AllFit entries ops w → AllSound cpu count nodes els w.seat.node (worker_sum els w) → Accounts kind t rest w → Accounts kind t rest (all_done entries ops w)
  all_account cpu count rest nodes els below are entries [] w r f s a = a
  all_account cpu count rest nodes els below are entries (what ∷ ops) w r f s a =
      all_account cpu count rest nodes els below are entries ops (done entries what w) (worker_rises entries (what ∷ []) w r) f.1
      (step_sound cpu count nodes els below are entries what w r f.0 s)
      (step_accounts kind t rest (worker_sum els w) entries what w r f.0 s.own a)

  turn_account : (cpu : ℕ) (now : Machine) (entries : List Entry) (ops : List TraceOp) → cpu < length now.seats → T (rises now.live) → AllFit entries ops (worker_at cpu now) → IsSound now → Totals now → Totals (with_worker cpu (all_done entries ops (worker_at cpu now)) now)
  turn_account cpu now entries ops below r f s h =
      let w = all_done entries ops (worker_at cpu now) in
      let there = seat_there_count now cpu below in
      let left = with_seat_count now cpu w.seat below in
      let a = all_account cpu (length now.seats) (others_count now cpu) (λ k. (seat_at k now).node) (elsewhere now cpu) below (λ k low differ. s.cpus k low) entries ops (worker_at cpu now) r f (to_worker now cpu below s) (omega arith) in
      omega arith

  -- ---- the barrier

  module_tally : (m : Machine) (what : TraceOp) → (module_done m what).tally ≡ m.tally
  module_tally m (op.Page key order) = refl
  module_tally m (op.Kmalloc key size) = refl
  module_tally m (op.Free key) = refl
  module_tally m (op.Split key order first) = refl
  module_tally m (op.Swap one two) = refl
  module_tally m (op.Trim key pages) = refl
  module_tally m (op.Hook section index) = refl
  module_tally m op.Unhook = refl
  module_tally m (op.Enter section) = refl
  module_tally m (op.Leave section) = refl
  module_tally m (op.Unload section) = refl

  pub modules_tally : (ops : List OnOp) (m : Machine) → (modules_done ops m).tally ≡ m.tally
  modules_tally ops m = fold_keeps (λ (x : Machine). x.tally ≡ m.tally) module_done (λ x what h. module_tally x what ∙ h) (map (λ (on : OnOp). on.op) ops) m refl

  same_totals : (m now : Machine) → now.tally ≡ m.tally → now.live ≡ m.live → now.seats ≡ m.seats → Totals m → Totals now
  same_totals m now tally live seats h = subst Totals (λ i. record now { seats = sym seats i; live = sym live i; tally = sym tally i }) h

  none_returning_count : (seats : List Seat) → seats_count (map none_returning seats) ≡ seats_count seats
  none_returning_count [] = refl
  none_returning_count (seat ∷ seats) =
      sum_by-cons (λ (s : Seat). node_counts kind t s.node) (none_returning seat) (map none_returning seats)
      ∙ ap (λ n. node_counts kind t seat.node + n) (none_returning_count seats)
      ∙ sym (sum_by-cons (λ (s : Seat). node_counts kind t s.node) seat seats)

  one_home_counts : (count : ℕ) (m : Machine) (given : Storage) (others : List Storage) → OnTheWay count m (given ∷ others) → Totals m → Totals (storage_home m given)
  one_home_counts count m given others o h =
      let home = home_of given in
      let below = home_low count m given others o in
      let seat = seat_at home m in
      let taken = come_home given seat.node in
      let now : Seat = record seat { node = taken.node } in
      let there = seat_there_count m home below in
      let left = with_seat_count m home now below in
      let c = home_counts kind t given seat.node in
      let u = ups kind t m.tally.moves taken.moves in
      let d = downs kind t m.tally.moves taken.moves in
      omega arith

  all_home_counts : (count : ℕ) (others : List Storage) (m : Machine) → OnTheWay count m others → Totals m → Totals (fold storage_home m others)
  all_home_counts count [] m o h = h
  all_home_counts count (given ∷ others) m o h = all_home_counts count others (storage_home m given) (one_home count m given others o) (one_home_counts count m given others o h)

  barrier_counts : (ops : List OnOp) (m : Machine) → IsSound (cpus_done ops m) → Totals (cpus_done ops m) → Totals (round_done ops m)
  barrier_counts ops m s h =
      let left = cpus_done ops m in
      let marked = modules_done ops left in
      let marked_sound = same_parts left marked (modules_seats ops left) (modules_live ops left) s in
      let marked_counts : Totals marked = same_totals left marked (modules_tally ops left) (modules_live ops left) (modules_seats ops left) h in
      let out : Totals (none_on_its_way marked) = marked_counts ∙ ap (λ n. all_down kind t marked.tally.moves + (live_counts kind t 0 marked.live + n)) (sym (none_returning_count marked.seats)) in
      let home = all_home marked in
      let home_counts : Totals home = all_home_counts (length marked.seats) (on_its_way marked) (none_on_its_way marked) (sets_out marked marked_sound) out in
      home_counts

  -- ---- the items

  pub record SoundTotals (m : Machine) : Type 0 where
    pub sound : IsSound m
    pub totals : Totals m

  item_counts : (trace : Trace) (top : Option ℕ) (what : Item) (walk next : Walk) (p : Played) → FitsItem what → IsFormedItem trace.cpus trace.sections what → walk_item what walk ≡ Ok next → Between trace walk p.machine → SoundTotals p.machine → SoundTotals (item_played trace top what p).machine
  unfolding walk_item
  item_counts trace top (item.Round ops) walk next p are formed e b s =
      let f = fits_of_round trace ops walk next p.machine are formed b e in
      let same : f.after ≡ next = cc (f.walked, e) in
      let left = turns ops (begun walk) next p.machine are (record { keys = b.fits.keys; modules = b.fits.modules }) e b.rise b.agree f same Totals
      (λ cpu now low up fit sound h. turn_account cpu now now.area.entries (ops_of cpu ops) low up fit sound h) s.sound s.totals in
      record { sound = barrier_sound ops p.machine left.sound; totals = barrier_counts ops p.machine left.sound left.also }
  item_counts trace top (item.Load line section) walk next p are formed e b s = record { sound = item_sound trace top (item.Load line section) walk next p are formed e b s.sound; totals = s.totals }
  item_counts trace top item.Print walk next p are formed e b s = s
  item_counts trace top item.Areas walk next p are formed e b s = s

  first_counts : (trace : Trace) → Totals (machine_of trace)
  first_counts trace = sym (ap (λ n. 0 + (0 + n)) (fresh_count trace.frames trace.vectors trace.cpus 0))
    where
      none_there : (count from : ℕ) → slabs_sum (slab_counts kind t) from (replicate count None) ≡ 0
      none_there zero from = refl
      none_there (suc count) from = ap (λ n. 0 + n) (none_there count (from + 1))

      fresh_count : (frames vectors count from : ℕ) → seats_count (map (fresh_seat frames vectors) (range_with_len from count)) ≡ 0
      fresh_count frames vectors zero from = refl
      fresh_count frames vectors (suc count) from =
          sum_by-cons (λ (s : Seat). node_counts kind t s.node) (fresh_seat frames vectors from) (map (fresh_seat frames vectors) (range_with_len (from + 1) count))
          ∙ (λ i. none_there frames 0 i + fresh_count frames vectors count (from + 1) i)

  pub totals_after : (trace : Trace) (top : Option ℕ) → IsFormedTrace trace → rounds_of trace ≡ Ok tt → (front back : List Item) → trace.body ≡ front ++ back → Totals (played_so_far trace top front).played.machine
  totals_after trace top formed passes front back stands =
      (after_items SoundTotals trace top (item_counts trace top) formed passes front back stands (record { sound = first_sound trace; totals = first_counts trace })).totals
