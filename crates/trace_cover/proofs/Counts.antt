-- How much a checked trace counts: a failed allocation or an uncounted object for each op at most, and few ops.
use Rattle.std.proofs.Common.{◌≡◌, ℕ, zero, suc, ◌+◌, ◌<◌, ◌≤◌, Bool, true, false, cond, eqb, List, [], ◌∷◌, ◌++◌, length, map, Option, Some, None, refl, ap, subst, arith, eqb-true, ne_eqb}
use Rattle.std.specs.Prelude.{fold, sum_by}
use Rattle.std.specs.List.{filter, range_with_len}
use Rattle.std.proofs.lemmas.List.Sums.{sum_by-cons}
use Rattle.input_form.specs.declared.code.Code.{Code}
use Rattle.input_form.specs.Forms.{AreLineNumbers}
use Rattle.slab_cache.specs.Storage.{Storage}
use Rattle.trace.specs.declared.traces.Item.{Item}
use Rattle.trace.specs.declared.traces.Item.TheVariants as item
use Rattle.trace.specs.declared.traces.OnOp.{OnOp}
use Rattle.trace.specs.declared.traces.Trace.{Trace}
use Rattle.trace.specs.Formed.{numbers_of}
use Rattle.round_check.proofs.Named.{by_bool}
use Rattle.trace_play.specs.Machine.{Machine, worker_at}
use Rattle.trace_play.specs.Barrier.{cpu_done, cpus_done, modules_done, none_on_its_way, on_its_way, ops_of, round_done, storage_home}
use Rattle.trace_play.specs.Play.{Outcome, Played, item_played, nothing_played, ops_in, play, played_so_far, refusal_of}
use Rattle.trace_play.specs.Worker.{Tally}
use Rattle.trace_play.proofs.OwnWords.{Counted, ops_count}
use Rattle.trace_play.proofs.Rising.{fold_keeps}
use Rattle.trace_play.proofs.TotalsHold.{modules_tally}
use Rattle.tag_model.specs.declared.state.Kind.TheVariants.{Bytes}
use Rattle.trace_play.proofs.Numbers.{few_ops}

-- ---- each op is of one CPU

one_hit : (x n from : ℕ) → sum_by (λ c. cond {A = ℕ} (eqb x c) 1 0) (range_with_len from n) ≤ 1
one_hit x zero from = omega arith
one_hit x (suc n) from =
    let s = sum_by-cons (λ c. cond {A = ℕ} (eqb x c) 1 0) from (range_with_len (from + 1) n) in
    by_bool {P = sum_by (λ c. cond {A = ℕ} (eqb x c) 1 0) (range_with_len from (suc n)) ≤ 1} (eqb x from)
    (λ e. let one : cond {A = ℕ} (eqb x from) 1 0 ≡ 1 = ap (λ b. cond {A = ℕ} b 1 0) e in let none = past n (from + 1) (let same = eqb-true x from e in omega (arith, same)) in omega (arith, s, one, none))
    (λ e. let zero_here : cond {A = ℕ} (eqb x from) 1 0 ≡ 0 = ap (λ b. cond {A = ℕ} b 1 0) e in let later = one_hit x n (from + 1) in omega (arith, s, zero_here, later))
  where
    past : (n from : ℕ) → x < from → sum_by (λ c. cond {A = ℕ} (eqb x c) 1 0) (range_with_len from n) ≡ 0
    past zero from low = refl
    past (suc n) from low =
        let s = sum_by-cons (λ c. cond {A = ℕ} (eqb x c) 1 0) from (range_with_len (from + 1) n) in
        let not_here : cond {A = ℕ} (eqb x from) 1 0 ≡ 0 = ap (λ b. cond {A = ℕ} b 1 0) (ne_eqb x from (λ e. omega (arith, e, low))) in
        let later = past n (from + 1) (omega (arith, low)) in
        omega (arith, s, not_here, later)

one_more : (on : OnOp) (ops : List OnOp) (cpu : ℕ) → length (ops_of cpu (on ∷ ops)) ≡ cond {A = ℕ} (eqb on.cpu cpu) 1 0 + length (ops_of cpu ops)
one_more on ops cpu = by (eqb on.cpu cpu)
  where
    by : (b : Bool) → length (map (λ (x : OnOp). x.op) (cond b (on ∷ filter (λ (x : OnOp). eqb x.cpu cpu) ops) (filter (λ (x : OnOp). eqb x.cpu cpu) ops))) ≡ cond {A = ℕ} b 1 0 + length (ops_of cpu ops)
    by true = omega arith
    by false = omega arith

sum_two : (f g h : ℕ → ℕ) (cpus : List ℕ) → ((c : ℕ) → f c ≡ g c + h c) → sum_by f cpus ≡ sum_by g cpus + sum_by h cpus
sum_two f g h [] each = refl
sum_two f g h (c ∷ cpus) each =
    let one = each c in
    let later = sum_two f g h cpus each in
    omega (arith, sum_by-cons f c cpus, sum_by-cons g c cpus, sum_by-cons h c cpus, one, later)

zero_sum : (cpus : List ℕ) → sum_by (λ (c : ℕ). length (ops_of c [])) cpus ≡ 0
zero_sum [] = refl
zero_sum (c ∷ cpus) = let s = sum_by-cons (λ (c : ℕ). length (ops_of c [])) c cpus in let later = zero_sum cpus in omega (arith, s, later)

ops_once : (n : ℕ) (ops : List OnOp) → sum_by (λ c. length (ops_of c ops)) (range_with_len 0 n) ≤ length ops
ops_once n [] = let z = zero_sum (range_with_len 0 n) in omega (arith, z)
ops_once n (on ∷ ops) =
    let s = sum_two (λ c. length (ops_of c (on ∷ ops))) (λ c. cond {A = ℕ} (eqb on.cpu c) 1 0) (λ c. length (ops_of c ops)) (range_with_len 0 n) (one_more on ops) in
    let hit = one_hit on.cpu n 0 in
    let later = ops_once n ops in
    omega (arith, s, hit, later)

-- ---- a round

turns_count : (ops : List OnOp) (n from : ℕ) (m : Machine) → Counted m.tally (fold (cpu_done ops) m (range_with_len from n)).tally (sum_by (λ c. length (ops_of c ops)) (range_with_len from n))
turns_count ops zero from m = record { failed = omega arith; uncounted = omega arith }
turns_count ops (suc n) from m =
    let s = sum_by-cons (λ c. length (ops_of c ops)) from (range_with_len (from + 1) n) in
    let one = ops_count m.area.entries (ops_of from ops) (worker_at from m) in
    let later = turns_count ops n (from + 1) (cpu_done ops m from) in
    record { failed = omega (arith, s, one.failed, later.failed); uncounted = omega (arith, s, one.uncounted, later.uncounted) }

home_counts : (rest : List Storage) (m : Machine) → ((fold storage_home m rest).tally.failed ≡ m.tally.failed) × ((fold storage_home m rest).tally.uncounted ≡ m.tally.uncounted)
home_counts rest m = fold_keeps (λ (x : Machine). (x.tally.failed ≡ m.tally.failed) × (x.tally.uncounted ≡ m.tally.uncounted)) storage_home (λ x given h. h) rest m (refl, refl)

pub round_counts : (ops : List OnOp) (m : Machine) → Counted m.tally (round_done ops m).tally (length ops)
round_counts ops m =
    let left = cpus_done ops m in
    let marked = modules_done ops left in
    let all = turns_count ops (length m.seats) 0 m in
    let few = ops_once (length m.seats) ops in
    let same = modules_tally Bytes 0 ops left in
    let home = home_counts (on_its_way marked) (none_on_its_way marked) in
    let f = ap (λ (t : Tally). t.failed) same in
    let u = ap (λ (t : Tally). t.uncounted) same in
    record { failed = omega (arith, all.failed, few, f, home.0); uncounted = omega (arith, all.uncounted, few, u, home.1) }

-- ---- the items

items_count : (trace : Trace) (top : Option ℕ) (items : List Item) (p : Played) → Counted p.machine.tally (play trace top items p).played.machine.tally (sum_by ops_in items)
items_count trace top [] p = record { failed = omega arith; uncounted = omega arith }
items_count trace top (what ∷ items) p =
    let s = sum_by-cons ops_in what items in
    let one = by what in
    let later = items_count trace top items (item_played trace top what p) in
    elim (refusal_of trace what p) as (λ (why : Option (ℕ × Code)). Counted p.machine.tally (elim why as (λ _. Outcome) [ None ↦ play trace top items (item_played trace top what p) | Some w ↦ record { played = p; refused = Some w } ]).played.machine.tally (sum_by ops_in (what ∷ items))) [
      | None ↦ record { failed = omega (arith, s, one.failed, later.failed); uncounted = omega (arith, s, one.uncounted, later.uncounted) }
      | Some w ↦ record { failed = omega arith; uncounted = omega arith }
    ]
  where
    by : (what : Item) → Counted p.machine.tally (item_played trace top what p).machine.tally (ops_in what)
    by (item.Round ops) = round_counts ops p.machine
    by (item.Load line section) = record { failed = omega arith; uncounted = omega arith }
    by item.Print = record { failed = omega arith; uncounted = omega arith }
    by item.Areas = record { failed = omega arith; uncounted = omega arith }

front_less : (front back : List Item) → sum_by ops_in front ≤ sum_by ops_in (front ++ back)
front_less [] back = omega arith
front_less (what ∷ front) back = let a = sum_by-cons ops_in what front in let b = sum_by-cons ops_in what (front ++ back) in let later = front_less front back in omega (arith, a, b, later)

pub front_counts : (trace : Trace) (top : Option ℕ) (front back : List Item) → trace.body ≡ front ++ back → AreLineNumbers (numbers_of trace.body)
    → ((played_so_far trace top front).played.machine.tally.failed ≤ 131072) × ((played_so_far trace top front).played.machine.tally.uncounted ≤ 131072)
front_counts trace top front back stands lines =
    let c = items_count trace top front (nothing_played trace) in
    let few = subst (λ items. sum_by ops_in items ≤ 131071) stands (few_ops trace.body lines) in
    let less = front_less front back in
    (omega (arith, c.failed, few, less), omega (arith, c.uncounted, few, less))
