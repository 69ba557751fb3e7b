-- The CPUs of a round side by side, and in either order.
use Rattle.std.proofs.Common.{eqb, [], ◌∷◌, ◌≡◌, ◌≢◌, ℕ, zero, suc, ◌+◌, ◌≤◌, ◌<◌, Bool, true, false, not, List, ◌++◌, None, nat_cmp, length, set, refl, sym, ap, ◌∙◌, subst, arith}
use Rattle.std.specs.Prelude.{fold, sum_by}
use Rattle.std.specs.List.{range_with_len}
use Rattle.std.specs.FinMap.Entries.{find}
use Rattle.std.proofs.lemmas.Bool.{cond-true, eqb-true, eqb-false}
use Rattle.std.proofs.lemmas.List.{get_or-set_other, set_comm, length-set}
use Rattle.std.proofs.lemmas.Grind.{get_or-set_at}
use Rattle.std.proofs.lemmas.List.Sums.{sum_by-append}
use Rattle.tag_model.specs.Moves.{Move}
use Rattle.module_area.specs.Area.{Area}
use Rattle.trace.specs.declared.traces.OnOp.{OnOp}
use Rattle.trace_play.specs.Live.{Live}
use Rattle.trace_play.specs.Worker.{Tally, WorkerState, all_done}
use Rattle.trace_play.specs.Machine.{seat_at, Machine, fresh_seat, worker_at, with_worker, nothing_done}
use Rattle.trace_play.specs.Barrier.{ops_of, cpu_done, cpus_done}
use Rattle.trace_play.specs.Alone.{worker_done, rises, kept, names_only, alone, joined, others, rejoined, given_back, side_by_side, AreApart, NoneShared, NamesItsOwn, SameButOrder}
use Rattle.trace_play.proofs.Entries.{kept_within, find_kept, same}
use Rattle.trace_play.proofs.AloneLemmas.{holds, holding, all_touch, still_rises, is_alone, own_names, own_keys, other_keys}

-- ---- one CPU behind others

-- a CPU whose seat and keys are as they were does what it did then, among what stands now
pub done_is : (mine : ℕ → Bool) (ops : List OnOp) (m now : Machine) (cpu : ℕ) → rises m.live ≡ true → rises now.live ≡ true → now.area ≡ m.area
    → alone mine (worker_at cpu now) ≡ alone mine (worker_at cpu m) → NamesItsOwn mine ops m cpu
    → NamesItsOwn mine ops now cpu × (cpu_done ops now cpu ≡ with_worker cpu (rejoined mine (worker_at cpu now) (all_done m.area.entries (ops_of cpu ops) (alone mine (worker_at cpu m)))) now)
done_is mine ops m now cpu r r' area begins names =
    let entries = now.area.entries in
    let at_first : names_only mine entries (ops_of cpu ops) (worker_at cpu m) ≡ true = subst (λ (a : Area). names_only mine a.entries (ops_of cpu ops) (worker_at cpu m) ≡ true) (sym area) names in
    let here : names_only mine entries (ops_of cpu ops) (worker_at cpu now) ≡ true =
    sym (own_names mine entries (ops_of cpu ops) (worker_at cpu now) r')
    ∙ ap (names_only mine entries (ops_of cpu ops)) begins
    ∙ own_names mine entries (ops_of cpu ops) (worker_at cpu m) r
    ∙ at_first in (
      here,
      ap (λ (w : WorkerState). with_worker cpu w now)
          (is_alone mine entries (ops_of cpu ops) (worker_at cpu now) r' here
          ∙ (λ i. rejoined mine (worker_at cpu now) (all_done (area i).entries (ops_of cpu ops) (begins i)))),
    )

-- its keys still rise
pub rises_behind : (mine : ℕ → Bool) (ops : List OnOp) (now : Machine) (cpu : ℕ) → rises now.live ≡ true → NamesItsOwn mine ops now cpu → rises (cpu_done ops now cpu).live ≡ true
rises_behind mine ops now cpu r names = holding _ (still_rises now.live (cpu_done ops now cpu).live (all_touch mine now.area.entries (ops_of cpu ops) (worker_at cpu now) names) (holds r))

-- and another CPU's seat and keys are as they were
pub untouched_behind : (mine yours : ℕ → Bool) (ops : List OnOp) (now : Machine) (cpu other : ℕ) → rises now.live ≡ true → NamesItsOwn mine ops now cpu → other ≢ cpu → AreApart yours mine
    → alone yours (worker_at other (cpu_done ops now cpu)) ≡ alone yours (worker_at other now)
untouched_behind mine yours ops now cpu other r names apart none =
    let left = all_done now.area.entries (ops_of cpu ops) (worker_at cpu now) in
    let within = λ (live : Live) (up : rises live ≡ true). kept_within yours (others mine) live (holds up) (λ q h. ap not (none q h)) in
    let live : kept yours left.live ≡ kept yours now.live =
    sym (within left.live (rises_behind mine ops now cpu r names))
    ∙ ap (kept yours) (other_keys mine now.area.entries (ops_of cpu ops) (worker_at cpu now) r names)
    ∙ within now.live r in
    let seat = get_or-set_other now.seats cpu other left.seat (fresh_seat 0 0 other) apart in
    λ i. record { seat = seat i; live = live i; tally = nothing_done }

pub find_of_kept : (p : ℕ → Bool) (q : ℕ) (live other : Live) → kept p live ≡ other → p q ≡ true → find nat_cmp q live ≡ find nat_cmp q other
find_of_kept p q live other e is = sym (cond-true (p q) (find nat_cmp q live) None is) ∙ sym (find_kept p q live) ∙ ap (find nat_cmp q) e

pub kept_all : (live : Live) → kept (λ _. true) live ≡ live
kept_all [] = refl
kept_all (e ∷ live) = ap (λ es. e ∷ es) (kept_all live)

-- ---- all CPUs

module _ (own : ℕ → ℕ → Bool) (ops : List OnOp) (m : Machine) (r : rises m.live ≡ true) (apart : NoneShared own) (names : (cpu : ℕ) → cpu < length m.seats → NamesItsOwn (own cpu) ops m cpu) where
  goes_on : (count from : ℕ) (now : Machine) → from + count ≤ length m.seats → rises now.live ≡ true → now.area ≡ m.area
      → ((cpu : ℕ) → from ≤ cpu → alone (own cpu) (worker_at cpu now) ≡ alone (own cpu) (worker_at cpu m))
      → fold (cpu_done ops) now (range_with_len from count) ≡ fold (given_back own ops m) now (range_with_len from count)
  goes_on zero from now few up area begins = refl
  goes_on (suc count) from now few up area begins =
      let is = done_is (own from) ops m now from r up area (begins from (omega arith)) (names from (omega arith)) in
      goes_on count (from + 1) (cpu_done ops now from) (omega arith) (rises_behind (own from) ops now from up is.0) area
      (λ cpu above. untouched_behind (own from) (own cpu) ops now from cpu up is.0 (λ e. omega arith) (apart cpu from (λ e. omega arith)) ∙ begins cpu (omega arith))
      ∙ ap (λ (x : Machine). fold (given_back own ops m) x (range_with_len (from + 1) count)) is.1

  pub are_side_by_side : cpus_done ops m ≡ side_by_side own ops m
  are_side_by_side = goes_on (length m.seats) 0 m (omega arith) r refl (λ cpu _. refl)

  -- what the turn of each CPU keeps
  goes_along : (P : Machine → Type 0)
      → ((cpu : ℕ) (now : Machine) → cpu < length m.seats → rises now.live ≡ true → now.area ≡ m.area → alone (own cpu) (worker_at cpu now) ≡ alone (own cpu) (worker_at cpu m) → NamesItsOwn (own cpu) ops now cpu → P now → P (cpu_done ops now cpu))
      → (count from : ℕ) (now : Machine) → from + count ≤ length m.seats → rises now.live ≡ true → now.area ≡ m.area → ((cpu : ℕ) → from ≤ cpu → alone (own cpu) (worker_at cpu now) ≡ alone (own cpu) (worker_at cpu m)) → P now
      → P (fold (cpu_done ops) now (range_with_len from count))
  goes_along P step zero from now few up area begins h = h
  goes_along P step (suc count) from now few up area begins h =
      let is = done_is (own from) ops m now from r up area (begins from (omega arith)) (names from (omega arith)) in
      goes_along P step count (from + 1) (cpu_done ops now from) (omega arith) (rises_behind (own from) ops now from up is.0) area
      (λ later above. untouched_behind (own from) (own later) ops now from later up is.0 (λ e. omega arith) (apart later from (λ e. omega arith)) ∙ begins later (omega arith))
      (step from now (omega arith) up area (begins from (omega arith)) is.0 h)

  pub along : (P : Machine → Type 0)
      → ((cpu : ℕ) (now : Machine) → cpu < length m.seats → rises now.live ≡ true → now.area ≡ m.area → alone (own cpu) (worker_at cpu now) ≡ alone (own cpu) (worker_at cpu m) → NamesItsOwn (own cpu) ops now cpu → P now → P (cpu_done ops now cpu))
      → P m → P (cpus_done ops m)
  along P step h = goes_along P step (length m.seats) 0 m (omega arith) r refl (λ cpu _. refl) h

  -- what a CPU has once its turn is over
  abbrev IsLeft : ℕ → Machine → Type 0
  IsLeft cpu now = alone (own cpu) (worker_at cpu now) ≡ alone (λ _. true) (worker_done own ops m cpu)

  step_begins : (from : ℕ) (now : Machine) → rises now.live ≡ true → NamesItsOwn (own from) ops now from → (cpu : ℕ) → cpu ≢ from → alone (own cpu) (worker_at cpu (cpu_done ops now from)) ≡ alone (own cpu) (worker_at cpu now)
  step_begins from now up names cpu differ = untouched_behind (own from) (own cpu) ops now from cpu up names differ (apart cpu from differ)

  -- later CPUs leave it
  left_by_later : (count from : ℕ) (now : Machine) → from + count ≤ length m.seats → rises now.live ≡ true → now.area ≡ m.area
      → ((cpu : ℕ) → from ≤ cpu → alone (own cpu) (worker_at cpu now) ≡ alone (own cpu) (worker_at cpu m))
      → (cpu : ℕ) → cpu < from → alone (own cpu) (worker_at cpu (fold (cpu_done ops) now (range_with_len from count))) ≡ alone (own cpu) (worker_at cpu now)
  left_by_later zero from now few up area begins cpu low = refl
  left_by_later (suc count) from now few up area begins cpu low =
      let is = done_is (own from) ops m now from r up area (begins from (omega arith)) (names from (omega arith)) in
      left_by_later count (from + 1) (cpu_done ops now from) (omega arith) (rises_behind (own from) ops now from up is.0) area
      (λ later above. step_begins from now up is.0 later (λ e. omega arith) ∙ begins later (omega arith)) cpu (omega arith)
      ∙ step_begins from now up is.0 cpu (λ e. omega arith)

  left_here : (from : ℕ) (now : Machine) → from < length now.seats → rises now.live ≡ true → now.area ≡ m.area → alone (own from) (worker_at from now) ≡ alone (own from) (worker_at from m) → NamesItsOwn (own from) ops m from → IsLeft from (cpu_done ops now from)
  left_here from now low up area begins here =
      let is = done_is (own from) ops m now from r up area begins here in
      let entries = now.area.entries in
      let worker = worker_done own ops m from in
      let same : all_done entries (ops_of from ops) (alone (own from) (worker_at from now)) ≡ worker = λ i. all_done (area i).entries (ops_of from ops) (begins i) in
      let live : kept (own from) (cpu_done ops now from).live ≡ worker.live = own_keys (own from) entries (ops_of from ops) (worker_at from now) up is.0 ∙ ap (λ (w : WorkerState). w.live) same in
      let done_now = all_done entries (ops_of from ops) (worker_at from now) in
      let seat : seat_at from (cpu_done ops now from) ≡ worker.seat =
      get_or-set_at now.seats from from done_now.seat (fresh_seat 0 0 from) refl low
      ∙ ap (λ (w : WorkerState). w.seat) (is_alone (own from) entries (ops_of from ops) (worker_at from now) up is.0)
      ∙ ap (λ (w : WorkerState). w.seat) same in
      λ i. record { seat = seat i; live = (live ∙ sym (kept_all worker.live)) i; tally = nothing_done }

  lefts : (count from : ℕ) (now : Machine) → from + count ≤ length m.seats → length now.seats ≡ length m.seats → rises now.live ≡ true → now.area ≡ m.area
      → ((cpu : ℕ) → from ≤ cpu → alone (own cpu) (worker_at cpu now) ≡ alone (own cpu) (worker_at cpu m))
      → (cpu : ℕ) → from ≤ cpu → cpu < from + count → IsLeft cpu (fold (cpu_done ops) now (range_with_len from count))
  lefts zero from now few long up area begins cpu low high = absurd (omega arith)
  lefts (suc count) from now few long up area begins cpu low high =
      let is = done_is (own from) ops m now from r up area (begins from (omega arith)) (names from (omega arith)) in
      let next = cpu_done ops now from in
      let begins_next = λ (later : ℕ) (above : from + 1 ≤ later). step_begins from now up is.0 later (λ e. omega arith) ∙ begins later (omega arith) in
      let up_next = rises_behind (own from) ops now from up is.0 in
      by_cases (eqb cpu from) refl
      (λ e.
      left_by_later count (from + 1) next (omega arith) up_next area begins_next cpu (omega (arith, e))
      ∙ subst (λ c. IsLeft c next) (sym e) (left_here from now (omega arith) up area (begins from (omega arith)) (names from (omega arith))))
      (λ apart. lefts count (from + 1) next (omega arith) (length-set now.seats from _ ∙ long) up_next area begins_next cpu (omega arith) (omega arith))
    where
      by_cases : (b : Bool) → eqb cpu from ≡ b → {P : Type 0} → (cpu ≡ from → P) → (cpu ≢ from → P) → P
      by_cases true e yes_so no_so = yes_so (eqb-true cpu from e)
      by_cases false e yes_so no_so = no_so (eqb-false cpu from e)

  -- each CPU has what its worker left
  pub are_left : (cpu : ℕ) → cpu < length m.seats → IsLeft cpu (cpus_done ops m)
  are_left cpu low = lefts (length m.seats) 0 m (omega arith) refl r refl (λ c _. refl) cpu (omega arith) (omega arith)

  pub each_has : (cpu : ℕ) → cpu < length m.seats → (seat_at cpu (cpus_done ops m) ≡ (worker_done own ops m cpu).seat) × (kept (own cpu) (cpus_done ops m).live ≡ (worker_done own ops m cpu).live)
  each_has cpu low =
      let is = are_left cpu low in
      (ap (λ (w : WorkerState). w.seat) is, ap (λ (w : WorkerState). w.live) is ∙ kept_all (worker_done own ops m cpu).live)

  unnamed_stays : (key count from : ℕ) (now : Machine) → from + count ≤ length m.seats → rises now.live ≡ true → now.area ≡ m.area
      → ((cpu : ℕ) → from ≤ cpu → alone (own cpu) (worker_at cpu now) ≡ alone (own cpu) (worker_at cpu m)) → ((cpu : ℕ) → cpu < length m.seats → own cpu key ≡ false)
      → find nat_cmp key (fold (cpu_done ops) now (range_with_len from count)).live ≡ find nat_cmp key now.live
  unnamed_stays key zero from now few up area begins none = refl
  unnamed_stays key (suc count) from now few up area begins none =
      let is = done_is (own from) ops m now from r up area (begins from (omega arith)) (names from (omega arith)) in
      let next = cpu_done ops now from in
      unnamed_stays key count (from + 1) next (omega arith) (rises_behind (own from) ops now from up is.0) area
      (λ later above. step_begins from now up is.0 later (λ e. omega arith) ∙ begins later (omega arith)) none
      ∙ find_of_kept (others (own from)) key next.live (kept (others (own from)) now.live) (other_keys (own from) now.area.entries (ops_of from ops) (worker_at from now) up is.0) (ap not (none from (omega arith)))
      ∙ sym (find_of_kept (others (own from)) key now.live (kept (others (own from)) now.live) refl (ap not (none from (omega arith))))

  -- a key of no CPU stays
  pub unnamed : (key : ℕ) → ((cpu : ℕ) → cpu < length m.seats → own cpu key ≡ false) → find nat_cmp key (cpus_done ops m).live ≡ find nat_cmp key m.live
  unnamed key none = unnamed_stays key (length m.seats) 0 m (omega arith) r refl (λ c _. refl) none

-- ---- two CPUs in either order

-- what stands of two CPUs' keys, one behind the other
either_order_at : (mine yours : ℕ → Bool) (q : ℕ) → AreApart mine yours → (a1 a2 b1 b2 first d1 d2 : Live)
    → kept yours a2 ≡ d2 → kept (others yours) a2 ≡ kept (others yours) a1 → kept mine a1 ≡ d1 → kept (others mine) a1 ≡ kept (others mine) first
    → kept mine b2 ≡ d1 → kept (others mine) b2 ≡ kept (others mine) b1 → kept yours b1 ≡ d2 → kept (others yours) b1 ≡ kept (others yours) first
    → find nat_cmp q a2 ≡ find nat_cmp q b2
either_order_at mine yours q apart a1 a2 b1 b2 first d1 d2 ka2 oa2 ka1 oa1 kb2 ob2 kb1 ob1 = by (mine q) (yours q) refl refl
  where
    beside : (p : ℕ → Bool) (live other : Live) → kept p live ≡ kept p other → p q ≡ true → find nat_cmp q live ≡ find nat_cmp q other
    beside p live other e is = find_of_kept p q live (kept p other) e is ∙ sym (find_of_kept p q other (kept p other) refl is)

    by : (a b : Bool) → mine q ≡ a → yours q ≡ b → find nat_cmp q a2 ≡ find nat_cmp q b2
    by true true e f = let no : ⊥ = cc (apart q e, f) in absurd no
    by true false e f = beside (others yours) a2 a1 oa2 (ap not f) ∙ find_of_kept mine q a1 d1 ka1 e ∙ sym (find_of_kept mine q b2 d1 kb2 e)
    by false true e f = find_of_kept yours q a2 d2 ka2 f ∙ sym (beside (others mine) b2 b1 ob2 (ap not e) ∙ find_of_kept yours q b1 d2 kb1 f)
    by false false e f =
        beside (others yours) a2 a1 oa2 (ap not f) ∙ beside (others mine) a1 first oa1 (ap not e)
        ∙ sym (beside (others mine) b2 b1 ob2 (ap not e) ∙ beside (others yours) b1 first ob1 (ap not f))

sums_either_way : (f : Move → ℕ) (first one two : List Move) → sum_by f ((first ++ one) ++ two) ≡ sum_by f ((first ++ two) ++ one)
sums_either_way f first one two =
    omega (arith, sum_by-append f (first ++ one) two, sum_by-append f first one, sum_by-append f (first ++ two) one, sum_by-append f first two)

pub in_either_order : (mine yours : ℕ → Bool) (ops : List OnOp) (m : Machine) (one two : ℕ) → rises m.live ≡ true → one ≢ two → AreApart mine yours → NamesItsOwn mine ops m one → NamesItsOwn yours ops m two
    → SameButOrder (cpu_done ops (cpu_done ops m one) two) (cpu_done ops (cpu_done ops m two) one)
in_either_order mine yours ops m one two r differ apart names also =
    let back : AreApart yours mine = λ q h. other_way (mine q) (yours q) (apart q) h in
    let a1 = cpu_done ops m one in
    let b1 = cpu_done ops m two in
    let a2 = cpu_done ops a1 two in
    let b2 = cpu_done ops b1 one in
    let d1 = all_done m.area.entries (ops_of one ops) (alone mine (worker_at one m)) in
    let d2 = all_done m.area.entries (ops_of two ops) (alone yours (worker_at two m)) in
    let up_a : rises a1.live ≡ true = rises_behind mine ops m one r names in
    let up_b : rises b1.live ≡ true = rises_behind yours ops m two r also in
    let begins_a : alone yours (worker_at two a1) ≡ alone yours (worker_at two m) = untouched_behind mine yours ops m one two r names (λ e. differ (sym e)) back in
    let begins_b : alone mine (worker_at one b1) ≡ alone mine (worker_at one m) = untouched_behind yours mine ops m two one r also differ apart in
    let is_a1 = done_is mine ops m m one r r refl refl names in
    let is_b1 = done_is yours ops m m two r r refl refl also in
    let is_a2 = done_is yours ops m a1 two r up_a refl begins_a also in
    let is_b2 = done_is mine ops m b1 one r up_b refl begins_b names in
    let a_is : a2 ≡ with_worker two (rejoined yours (worker_at two a1) d2) a1 = is_a2.1 in
    let b_is : b2 ≡ with_worker one (rejoined mine (worker_at one b1) d1) b1 = is_b2.1 in
    let seats_a : a2.seats ≡ set (set m.seats one d1.seat) two d2.seat = ap (λ (x : Machine). x.seats) a_is ∙ ap (λ (x : Machine). set x.seats two d2.seat) is_a1.1 in
    let seats_b : b2.seats ≡ set (set m.seats two d2.seat) one d1.seat = ap (λ (x : Machine). x.seats) b_is ∙ ap (λ (x : Machine). set x.seats one d1.seat) is_b1.1 in
    let tally_a : a2.tally ≡ joined (joined m.tally d1.tally) d2.tally = ap (λ (x : Machine). x.tally) a_is ∙ ap (λ (x : Machine). joined x.tally d2.tally) is_a1.1 in
    let tally_b : b2.tally ≡ joined (joined m.tally d2.tally) d1.tally = ap (λ (x : Machine). x.tally) b_is ∙ ap (λ (x : Machine). joined x.tally d1.tally) is_b1.1 in
    let entries = m.area.entries in
    record {
      seats = seats_a ∙ set_comm m.seats one two d1.seat d2.seat differ ∙ sym seats_b;
      live = same a2.live b2.live (holds (rises_behind yours ops a1 two up_a is_a2.0)) (holds (rises_behind mine ops b1 one up_b is_b2.0))
          (λ q. either_order_at mine yours q apart a1.live a2.live b1.live b2.live m.live d1.live d2.live
          (own_keys yours entries (ops_of two ops) (worker_at two a1) up_a is_a2.0 ∙ ap (λ (w : WorkerState). (all_done entries (ops_of two ops) w).live) begins_a)
          (other_keys yours entries (ops_of two ops) (worker_at two a1) up_a is_a2.0)
          (own_keys mine entries (ops_of one ops) (worker_at one m) r names)
          (other_keys mine entries (ops_of one ops) (worker_at one m) r names)
          (own_keys mine entries (ops_of one ops) (worker_at one b1) up_b is_b2.0 ∙ ap (λ (w : WorkerState). (all_done entries (ops_of one ops) w).live) begins_b)
          (other_keys mine entries (ops_of one ops) (worker_at one b1) up_b is_b2.0)
          (own_keys yours entries (ops_of two ops) (worker_at two m) r also)
          (other_keys yours entries (ops_of two ops) (worker_at two m) r also));
      area = refl;
      last_id = refl;
      failed = ap (λ (t : Tally). t.failed) tally_a ∙ swap_last m.tally.failed d1.tally.failed d2.tally.failed ∙ sym (ap (λ (t : Tally). t.failed) tally_b);
      uncounted = ap (λ (t : Tally). t.uncounted) tally_a ∙ swap_last m.tally.uncounted d1.tally.uncounted d2.tally.uncounted ∙ sym (ap (λ (t : Tally). t.uncounted) tally_b);
      moves = λ weight. ap (λ (t : Tally). sum_by weight t.moves) tally_a ∙ sums_either_way weight m.tally.moves d1.tally.moves d2.tally.moves ∙ sym (ap (λ (t : Tally). sum_by weight t.moves) tally_b);
    }
  where
    other_way : (a b : Bool) → (a ≡ true → b ≡ false) → b ≡ true → a ≡ false
    other_way true b h e = let no : ⊥ = cc (h refl) in absurd no
    other_way false b h e = refl

    swap_last : (a b c : ℕ) → (a + b) + c ≡ (a + c) + b
    swap_last a b c = omega arith
