-- A round's lanes are ready: its keys are dealt, and its CPUs are inside the modules that stay loaded.
use Rattle.std.proofs.Common.{◌≡◌, ℕ, suc, ◌+◌, ◌<◌, ◌≤◌, Bool, true, false, cond, ◌||◌, List, [], ◌∷◌, ◌++◌, length, map, get_or, Option, Some, None, All, refl, sym, ap, ◌∙◌, subst, arith, lt-ltb, le-leb, eq-eqb, eqb-true, ⊎_elim}
use Rattle.std.specs.Prelude.{◌==◌, ◌&&◌, ◌^◌, IsSome, if◌then◌else◌, nat_lt, replicate, sum_by, take}
use Rattle.std.specs.List.{filter, find, list_all, list_any}
use Rattle.std.proofs.lemmas.Bool.{and_from, cases_lt, ne_eqb}
use Rattle.std.proofs.lemmas.List.{get_or-map, get_or-replicate, get_or-take, get_or_append_left, get_or_past, length-map, length-replicate, length-take-le}
use Rattle.std.proofs.lemmas.List.FromFn.{get_or-map-range_with_len, get_or-range_with_len, length-map-range_with_len}
use Rattle.std.proofs.lemmas.List.Sums.{get_or-le-sum_by, sum_by-cons}
use Rattle.tag_model.specs.declared.state.Run.{Run}
use Rattle.tag_model.specs.StepRules.{may_begin}
use Rattle.tag_model.specs.WordState.{in_range}
use Rattle.tag_section.specs.Section.{no_section}
use Rattle.module_area.specs.declared.entry.Entry.{Entry}
use Rattle.module_area.specs.declared.entry.State.{State}
use Rattle.module_area.specs.declared.entry.State.TheVariants.{Loaded, Dead}
use Rattle.module_area.specs.Entries.{is_loaded_as, is_loaded_at}
use Rattle.tag_rule.specs.Shown.{Board, CpuShown}
use Rattle.lanes.specs.Lanes.{AreReady, IsLaneReady, lanes_of}
use Rattle.lanes.proofs.NumberLemmas.{to_ready}
use Rattle.round_keys.proofs.OwnersNamed.{named_are_owners}
use Rattle.round_modules.specs.Inside.{AreInside, runs_in}
use Rattle.round_modules.specs.Known.{runs_of, unloaded_by}
use Rattle.round_modules.proofs.Meant.{unloads_meant}
use Rattle.round_worker.specs.Shown.{WorkerShown, at_start, may_count}
use Rattle.trace.specs.declared.traces.Item.{Item}
use Rattle.trace.specs.declared.traces.Item.TheVariants as item
use Rattle.trace.specs.declared.traces.OnOp.{OnOp}
use Rattle.trace.specs.declared.traces.Trace.{Trace}
use Rattle.trace_play.specs.Machine.{Machine, fresh_seat, nothing_done, seat_at, worker_at}
use Rattle.trace_play.specs.Worker.{Seat, WorkerState, tag_from, tag_in}
use Rattle.trace_play.specs.Alone.{alone}
use Rattle.trace_play.specs.Barrier.{cpus_done}
use Rattle.trace_play.specs.Fits.{is_owner}
use Rattle.trace_play.specs.Fitting.{Fit}
use Rattle.trace_play.specs.Play.{ops_in, section_len}
use Rattle.trace_play.specs.Ready.{MayCount, runs_inside}
use Rattle.trace_play.proofs.TraceFits.{seats_count}
use Rattle.trace_cover.specs.Cover.{IsOfSection}
use Rattle.trace_cover.proofs.Counts.{front_counts}
use Rattle.trace_play.proofs.Numbers.{few_ops}
use Rattle.trace_cover.proofs.Items.{AtRound, at_round}
use Rattle.trace_cover.proofs.Told.{round_stays}
use Rattle.module_area.proofs.EntryLemmas.{find_some}
use Rattle.standing.specs.Standing.{CpusStand, HasRoomFor, RoundOf, WorkersStand, first_of}
use Rattle.standing.specs.Turning.{dealt}
use Rattle.standing.proofs.CpusMoved.{stand_at, stand_long}
use Rattle.standing.proofs.DoneLanes.{dealt_at, dealt_long}
use Rattle.standing.proofs.RunFound.{run_found}
use Rattle.trace_play.proofs.ReadyHolds.{cpus_area}

-- ---- what is found

found_all : (P : Entry → Type 0) (entries : List Entry) (section : ℕ) (e : Entry) → All P entries → find (is_loaded_as section) entries ≡ Some e → P e
found_all P entries section e all is = let there = (find_some (is_loaded_as section) entries e is).0 in subst P there.2 (all there.0 e there.1)

section_of : (section : ℕ) (e : Entry) → is_loaded_as section e ≡ true → e.section ≡ section
section_of section e h = by e.state h
  where
    by : (state : State) → is_loaded_at state e.section section ≡ true → e.section ≡ section
    by Loaded h = eqb-true _ _ h
    by Dead h = let no : ⊥ = cc in absurd no

-- ---- how many ops there are

filter_short : {X : Type 0} (p : X → Bool) (xs : List X) → length (filter p xs) ≤ length xs
filter_short p [] = omega arith
filter_short p (x ∷ xs) = by (p x) (filter_short p xs)
  where
    by : (b : Bool) → length (filter p xs) ≤ length xs → length (cond b (x ∷ filter p xs) (filter p xs)) ≤ suc (length xs)
    by true later = omega (arith, later)
    by false later = omega (arith, later)

round_short : (front back : List Item) (ops : List OnOp) → length ops ≤ sum_by ops_in (front ++ item.Round ops ∷ back)
round_short [] back ops = let s = sum_by-cons ops_in (item.Round ops) back in omega (arith, s)
round_short (what ∷ front) back ops = let s = sum_by-cons ops_in what (front ++ item.Round ops ∷ back) in let later = round_short front back ops in omega (arith, s, later)

module _ (trace : Trace) (top : Option ℕ) (ops : List OnOp) (r : RoundOf trace top ops) (b : Board) (cpus : List CpuShown) (workers : List WorkerShown) (room : HasRoomFor b trace)
    (s : CpusStand b (first_of trace top ops r) cpus) (w : WorkersStand b (first_of trace top ops r) workers) (inside : AreInside trace.cpus (runs_of (unloaded_by ops (first_of trace top ops r).area.entries)) cpus) where
  abbrev begins : Machine
  begins = first_of trace top ops r

  abbrev entries : List Entry
  entries = begins.area.entries

  abbrev known : List Run
  known = runs_of (unloaded_by ops entries)

  abbrev own : ℕ → ℕ → Bool
  own = is_owner r.after

  here : AtRound trace r.formed ops r.before r.after begins
  here = at_round trace r.formed top ops r.before r.after r.passes r.round r.none r.walked

  count : length begins.seats ≡ trace.cpus
  count = seats_count trace top r.round.front

  many : length workers ≡ trace.cpus
  many = sym (length-map workers (λ (x : WorkerShown). x.seat)) ∙ ap length w.seats ∙ count

  long : length cpus ≡ b.shape.cpus
  long = stand_long b begins cpus s

  -- ---- tags

  -- a module that a CPU is inside at some moment is found behind the round's unloads
  stays : (cpu section : ℕ) → section < length trace.sections → runs_inside r.before ops cpu section ≡ true → find (is_loaded_as section) (unloaded_by ops entries) ≡ find (is_loaded_as section) entries
  stays cpu section low runs =
      ap (find (is_loaded_as section)) (ap (unloaded_by ops) (sym (ap (λ area. area.entries) (cpus_area ops begins))) ∙ sym (ap (λ area. area.entries) (unloads_meant (cpus_done ops begins) ops)))
      ∙ round_stays trace top ops r.before r.after r.formed r.passes r.round r.none r.walked cpu section (let few = r.formed.sections.few in omega (arith, low, few)) runs

  -- a section with tags is one of the trace's
  is_section : (section index : ℕ) → index < section_len trace section → section < length trace.sections
  is_section section index low =
      ⊎_elim (λ below. below) (λ past. let none : section_len trace section ≡ 0 = ap (λ x. length x.tags) (get_or_past trace.sections section no_section past) in absurd (omega (arith, none, low)))
      (cases_lt section (length trace.sections))

  counts : (cpu section index : ℕ) → ((section == 0) || runs_inside r.before ops cpu section) ≡ true → index < section_len trace section → may_begin b.shape (tag_in entries section index) known ≡ true
  counts cpu section index runs low = by (section == 0) refl runs
    where
      by_entry : (o : Option Entry) → find (is_loaded_as section) entries ≡ o → IsSome o → find (is_loaded_as section) (unloaded_by ops entries) ≡ o → may_begin b.shape (tag_from index o) known ≡ true
      by_entry None is some left = let no : ⊥ = cc in absurd no
      by_entry (Some e) is some left =
          let test = λ (x : Run). (x.id == e.id) && in_range x.start x.length (e.start + index) in
          let of_section : IsOfSection trace e = found_all (IsOfSection trace) entries section e here.holds_now.covered.named is in
          let size : e.length ≡ section_len trace section = of_section.1 ∙ ap (section_len trace) (section_of section e (find_some (is_loaded_as section) entries e is).1) in
          let above : 0 < e.id = found_all (λ x. 0 < x.id) entries section e here.holds_now.covered.book.above_zero is in
          ap (λ kernel. cond kernel (nat_lt (e.start + index) b.shape.kernel_tags) (list_any test known)) (ne_eqb e.id 0 (λ none. omega (arith, none, above)))
          ∙ run_found section test (unloaded_by ops entries) e left
          (and_from _ _ (eq-eqb e.id e.id refl) (and_from _ _ (le-leb e.start (e.start + index) (omega arith)) (lt-ltb (e.start + index) (e.start + e.length) (omega (arith, size, low)))))

      by : (kernel : Bool) → (section == 0) ≡ kernel → (kernel || runs_inside r.before ops cpu section) ≡ true → may_begin b.shape (tag_from index (if kernel then None else find (is_loaded_as section) entries)) known ≡ true
      by true e runs =
          let few : section_len trace 0 ≤ 128 = r.formed.sections.within_limits 0 r.formed.kernel in
          let low_index : index < section_len trace 0 = subst (λ n. index < section_len trace n) (eqb-true section 0 e) low in
          lt-ltb index b.shape.kernel_tags (omega (arith, few, low_index, room.kernel))
      by false e runs = by_entry (find (is_loaded_as section) entries) refl (here.ready.loaded cpu section runs) (stays cpu section (is_section section index low) runs)

  -- ---- a CPU

  runs_at : (i : ℕ) (c : CpuShown) → i < trace.cpus → (get_or cpus i c).part.runs ≡ known
  runs_at i c low =
      sym (get_or-map runs_in cpus i c [] (omega (arith, low, long, room.cpus)))
      ∙ ap (λ xs. get_or xs i []) inside
      ∙ get_or_append_left (replicate trace.cpus known) _ [] i (let l = length-replicate trace.cpus known in omega (arith, low, l))
      ∙ get_or-replicate trace.cpus i known [] low

  may : (i : ℕ) (c : CpuShown) → i < trace.cpus → MayCount trace entries r.before ops i (may_count (get_or cpus i c))
  may i c low section index runs few =
      let at = stand_at b begins cpus i c s (omega (arith, low, long, room.cpus)) in
      (λ j. may_begin (at j).board.shape (tag_in entries section index) (runs_at i c low j)) ∙ counts i section index runs few

  -- ---- a worker

  worker_is : (i : ℕ) (x : WorkerShown) → i < trace.cpus → (get_or (dealt ops begins workers) i x).seat ≡ seat_at i begins
  worker_is i x low =
      ap (λ (y : WorkerShown). y.seat) (dealt_at ops begins workers i x (omega (arith, low, many)))
      ∙ sym (get_or-map (λ (y : WorkerShown). y.seat) workers i x (fresh_seat 0 0 i) (omega (arith, low, many)))
      ∙ ap (λ seats. get_or seats i (fresh_seat 0 0 i)) w.seats

  number_is : (i : ℕ) (x : WorkerShown) → i < trace.cpus → (get_or workers i x).cpu ≡ i
  number_is i x low =
      sym (get_or-map (λ (y : WorkerShown). y.cpu) workers i x 0 (omega (arith, low, many))) ∙ ap (λ xs. get_or xs i 0) w.numbers
      ∙ get_or-range_with_len 0 (length begins.seats) i 0 (omega (arith, low, count)) ∙ omega arith

  starts : (i : ℕ) (x : WorkerShown) → i < trace.cpus → at_start (get_or (dealt ops begins workers) i x) ≡ alone (own i) (worker_at i begins)
  starts i x low =
      let at = dealt_at ops begins workers i x (omega (arith, low, many)) in
      let lives = ap (λ (y : WorkerShown). y.live) at ∙ named_are_owners trace top ops r.before r.after r.formed r.passes r.round r.none r.walked i in
      (λ j. let q : WorkerState = record { seat = worker_is i x low j; live = lives j; tally = nothing_done } in q)

  -- what a worker counted and what it may count yet
  few_counted : (i : ℕ) (x : WorkerShown) → i < trace.cpus → ((get_or workers i x).failed + length ops < 2 ^ 64) × ((get_or workers i x).uncounted + length ops < 2 ^ 64)
  few_counted i x low =
      let most = front_counts trace top r.round.front (item.Round ops ∷ r.round.back) r.round.stands r.formed.lines in
      let few = subst (λ items. sum_by ops_in items ≤ 131071) r.round.stands (few_ops trace.body r.formed.lines) in
      let short = round_short r.round.front r.round.back ops in
      let f = get_or-le-sum_by (λ (y : WorkerShown). y.failed) workers i x (omega (arith, low, many)) in
      let u = get_or-le-sum_by (λ (y : WorkerShown). y.uncounted) workers i x (omega (arith, low, many)) in
      (omega (arith, most.0, few, short, f, w.failed), omega (arith, most.1, few, short, u, w.uncounted))

  -- ---- a lane

  one_ready : (i : ℕ) (x : WorkerShown) (c : CpuShown) → i < trace.cpus → (lane : List OnOp) → filter (λ (on : OnOp). on.cpu == i) ops ≡ lane → IsLaneReady lane (get_or (dealt ops begins workers) i x) (get_or cpus i c)
  one_ready i x c low [] is = tt
  one_ready i x c low (on ∷ lane) is =
      let at = dealt_at ops begins workers i x (omega (arith, low, many)) in
      let cpu_at = stand_at b begins cpus i c s (omega (arith, low, long, room.cpus)) in
      let test = may_count (get_or cpus i c) in
      let below : i < length begins.seats = omega (arith, low, count) in
      let counted = few_counted i x low in
      let short : length (on ∷ lane) ≤ length ops = subst (λ (xs : List OnOp). length xs ≤ length ops) is (filter_short (λ (o : OnOp). o.cpu == i) ops) in
      record {
        ready = record {
          table = ap (λ (y : WorkerShown). y.board) at ∙ w.boards i x (omega (arith, low, many)) ∙ sym (ap (λ (y : CpuShown). y.board) cpu_at);
          own = ap (λ (y : WorkerShown). y.cpu) at ∙ number_is i x low ∙ sym (ap (λ (y : CpuShown). y.part.number) cpu_at);
          hand = ap (λ (y : CpuShown). y.part.hand) cpu_at;
          allowed = ap (λ (seat : Seat). list_all test seat.hooks) (worker_is i x low) ∙ here.ready.hooks i test below (may i c low);
        };
        fits = subst (λ (t : List Entry × List OnOp × WorkerState). Fit test t.0 (map (λ (o : OnOp). o.op) t.1) t.2)
            (λ j. ((sym (ap (λ (y : WorkerShown). y.entries) at)) j, is j, (sym (starts i x low)) j))
            (here.ready.needs i test below (may i c low));
        failed = let f = ap (λ (y : WorkerShown). y.failed) at in omega (arith, counted.0, short, f);
        uncounted = let u = ap (λ (y : WorkerShown). y.uncounted) at in omega (arith, counted.1, short, u);
      }

  lanes_long : length (lanes_of trace.cpus ops) ≡ trace.cpus
  lanes_long = length-map-range_with_len (λ cpu. filter (λ (on : OnOp). on.cpu == cpu) ops) 0 trace.cpus

  pub are_ready : AreReady (lanes_of trace.cpus ops) (dealt ops begins workers) (take trace.cpus cpus)
  are_ready = to_ready (lanes_of trace.cpus ops) (dealt ops begins workers) (take trace.cpus cpus) (record {
    a_worker_each = dealt_long ops begins workers ∙ many ∙ sym lanes_long;
    a_cpu_each = length-take-le trace.cpus cpus (omega (arith, long, room.cpus)) ∙ sym lanes_long;
    each = λ x c i number_low.
        let low : i < trace.cpus = omega (arith, number_low, lanes_long) in
        let lane_is : get_or (lanes_of trace.cpus ops) i [] ≡ filter (λ (on : OnOp). on.cpu == i) ops = get_or-map-range_with_len (λ cpu. filter (λ (on : OnOp). on.cpu == cpu) ops) 0 trace.cpus i i [] low (omega arith) in
        subst (λ (y : CpuShown). IsLaneReady (get_or (lanes_of trace.cpus ops) i []) (get_or (dealt ops begins workers) i x) y) (sym (get_or-take trace.cpus cpus i c low))
        (one_ready i x c low (get_or (lanes_of trace.cpus ops) i []) (sym lane_is));
  })
