-- Lanes by their numbers, and the ops of the lanes.
use Rattle.std.proofs.Common.{◌≡◌, ◌≢◌, ◌<◌, ◌≤◌, ◌+◌, ◌++◌, ◌∙◌, ℕ, zero, suc, Bool, cond, List, [], ◌∷◌, length, map, get_or, slice_set, refl, sym, ap, subst, inl, inr, arith, zero-add}
use Rattle.std.proofs.lemmas.Bool.{cases_eq, eq-eqb, ne_eqb}
use Rattle.std.proofs.lemmas.List.{append-nil, get_or-map, get_or-set_other, get_or-set_same, length-set, map-append, map-set, same_lists}
use Rattle.std.proofs.lemmas.List.Elements.{filter-append}
use Rattle.std.proofs.lemmas.List.FromFn.{get_or-map-range_with_len, length-map-range_with_len, map-range_with_len_more}
use Rattle.std.specs.Prelude.{◌==◌, filter}
use Rattle.tag_rule.specs.Shown.{CpuShown}
use Rattle.trace.specs.declared.traces.OnOp.{OnOp}
use Rattle.round_worker.specs.Shown.{WorkerShown}
use Rattle.trace_play.specs.Barrier.{ops_of}
use Rattle.lanes.specs.Lanes.{AreDone, AreReady, lanes_of}
use Rattle.lanes.specs.Numbered.{AllDone, AllReady, IsDoneAt, IsReadyAt}

abbrev Lane : Type 0
Lane = List OnOp

-- ---- ready

pub to_ready : (lanes : List Lane) (ws : List WorkerShown) (cs : List CpuShown) → AllReady lanes ws cs → AreReady lanes ws cs
to_ready [] [] [] all = tt
to_ready (ops ∷ lanes) (w ∷ ws) (c ∷ cs) all = (
  all.each w c zero (omega arith),
  to_ready lanes ws cs (record {
    a_worker_each = omega (arith, all.a_worker_each);
    a_cpu_each = omega (arith, all.a_cpu_each);
    each = λ x y number below. all.each x y (suc number) (omega arith);
  }),
)
to_ready [] [] (c ∷ cs) all = absurd (omega (arith, all.a_cpu_each))
to_ready [] (w ∷ ws) cs all = absurd (omega (arith, all.a_worker_each))
to_ready (ops ∷ lanes) [] cs all = absurd (omega (arith, all.a_worker_each))
to_ready (ops ∷ lanes) (w ∷ ws) [] all = absurd (omega (arith, all.a_cpu_each))

ready_at : (lanes : List Lane) (ws : List WorkerShown) (cs : List CpuShown) → AreReady lanes ws cs → (w : WorkerShown) (c : CpuShown) (number : ℕ) → number < length lanes → IsReadyAt lanes ws cs w c number
ready_at (ops ∷ lanes) (w ∷ ws) (c ∷ cs) r x y zero below = r.0
ready_at (ops ∷ lanes) (w ∷ ws) (c ∷ cs) r x y (suc number) below = ready_at lanes ws cs r.1 x y number (omega (arith, below))
ready_at [] [] [] r x y number below = absurd (omega (arith, below))
ready_at lanes ws cs r x y number below = absurd r

ready_workers : (lanes : List Lane) (ws : List WorkerShown) (cs : List CpuShown) → AreReady lanes ws cs → length ws ≡ length lanes
ready_workers [] [] [] r = refl
ready_workers (ops ∷ lanes) (w ∷ ws) (c ∷ cs) r = ap suc (ready_workers lanes ws cs r.1)
ready_workers lanes ws cs r = absurd r

ready_cpus : (lanes : List Lane) (ws : List WorkerShown) (cs : List CpuShown) → AreReady lanes ws cs → length cs ≡ length lanes
ready_cpus [] [] [] r = refl
ready_cpus (ops ∷ lanes) (w ∷ ws) (c ∷ cs) r = ap suc (ready_cpus lanes ws cs r.1)
ready_cpus lanes ws cs r = absurd r

pub of_ready : (lanes : List Lane) (ws : List WorkerShown) (cs : List CpuShown) → AreReady lanes ws cs → AllReady lanes ws cs
of_ready lanes ws cs r = record { a_worker_each = ready_workers lanes ws cs r; a_cpu_each = ready_cpus lanes ws cs r; each = ready_at lanes ws cs r }

-- ---- done

pub to_done : (lanes : List Lane) (ws vs : List WorkerShown) (cs ds : List CpuShown) → AllDone lanes ws vs cs ds → AreDone lanes ws vs cs ds
to_done [] [] [] [] [] all = tt
to_done (ops ∷ lanes) (w ∷ ws) (v ∷ vs) (c ∷ cs) (d ∷ ds) all = (
  all.each w c zero (omega arith),
  to_done lanes ws vs cs ds (record {
    a_worker_each = (omega (arith, all.a_worker_each.0), omega (arith, all.a_worker_each.1));
    a_cpu_each = (omega (arith, all.a_cpu_each.0), omega (arith, all.a_cpu_each.1));
    each = λ x y number below. all.each x y (suc number) (omega arith);
  }),
)
to_done lanes ws vs cs ds all = absurd (omega (arith, all.a_worker_each.0, all.a_worker_each.1, all.a_cpu_each.0, all.a_cpu_each.1))

done_at : (lanes : List Lane) (ws vs : List WorkerShown) (cs ds : List CpuShown) → AreDone lanes ws vs cs ds → (w : WorkerShown) (c : CpuShown) (number : ℕ) → number < length lanes → IsDoneAt lanes ws vs cs ds w c number
done_at (ops ∷ lanes) (w ∷ ws) (v ∷ vs) (c ∷ cs) (d ∷ ds) r x y zero below = r.0
done_at (ops ∷ lanes) (w ∷ ws) (v ∷ vs) (c ∷ cs) (d ∷ ds) r x y (suc number) below = done_at lanes ws vs cs ds r.1 x y number (omega (arith, below))
done_at [] [] [] [] [] r x y number below = absurd (omega (arith, below))
done_at lanes ws vs cs ds r x y number below = absurd r

-- as many of each
record SameMany (lanes : List Lane) (ws vs : List WorkerShown) (cs ds : List CpuShown) : Type 0 where
  workers : (length ws ≡ length lanes) × (length vs ≡ length lanes)
  cpus : (length cs ≡ length lanes) × (length ds ≡ length lanes)

same_many : (lanes : List Lane) (ws vs : List WorkerShown) (cs ds : List CpuShown) → AreDone lanes ws vs cs ds → SameMany lanes ws vs cs ds
same_many [] [] [] [] [] r = record { workers = (refl, refl); cpus = (refl, refl) }
same_many (ops ∷ lanes) (w ∷ ws) (v ∷ vs) (c ∷ cs) (d ∷ ds) r =
    let rest = same_many lanes ws vs cs ds r.1 in
    record { workers = (ap suc rest.workers.0, ap suc rest.workers.1); cpus = (ap suc rest.cpus.0, ap suc rest.cpus.1) }
same_many lanes ws vs cs ds r = absurd r

pub of_done : (lanes : List Lane) (ws vs : List WorkerShown) (cs ds : List CpuShown) → AreDone lanes ws vs cs ds → AllDone lanes ws vs cs ds
of_done lanes ws vs cs ds r =
    let same = same_many lanes ws vs cs ds r in
    record { a_worker_each = same.workers; a_cpu_each = same.cpus; each = done_at lanes ws vs cs ds r }

-- ---- the ops

pub ops_of_each : (ops : List OnOp) (numbers : List ℕ) → map (λ (lane : Lane). map (λ (on : OnOp). on.op) lane) (map (λ (cpu : ℕ). filter (λ (on : OnOp). on.cpu == cpu) ops) numbers) ≡ map (λ (cpu : ℕ). ops_of cpu ops) numbers
ops_of_each ops [] = refl
ops_of_each ops (cpu ∷ numbers) = ap (λ rest. ops_of cpu ops ∷ rest) (ops_of_each ops numbers)

abbrev lane_of : List OnOp → ℕ → Lane
lane_of ops cpu = filter (λ (on : OnOp). on.cpu == cpu) ops

-- one CPU more
pub lanes_more : {V : Type 0} (items : V → Lane) (count : ℕ) (ops : List OnOp) (before : List V) (lane : V) → map items before ≡ lanes_of count ops → items lane ≡ lane_of ops count
    → map items (before ++ lane ∷ []) ≡ lanes_of (count + 1) ops
lanes_more items count ops before lane is one =
    map-append items before (lane ∷ [])
    ∙ ap (λ (lanes : List Lane). lanes ++ items lane ∷ []) is
    ∙ ap (λ (last : Lane). lanes_of count ops ++ last ∷ []) one
    ∙ sym (map-range_with_len_more (lane_of ops) 0 count count (zero-add count))

-- ---- one op more

lane_more : (ops : List OnOp) (on : OnOp) (cpu : ℕ) → lane_of (ops ++ on ∷ []) cpu ≡ lane_of ops cpu ++ cond (on.cpu == cpu) (on ∷ []) []
lane_more ops on cpu = filter-append (λ (o : OnOp). o.cpu == cpu) ops (on ∷ [])

-- the lane of its CPU has it behind the others
own_lane_more : (ops : List OnOp) (on : OnOp) (cpu : ℕ) → on.cpu ≡ cpu → lane_of (ops ++ on ∷ []) cpu ≡ lane_of ops cpu ++ on ∷ []
own_lane_more ops on cpu own = lane_more ops on cpu ∙ ap (λ (b : Bool). lane_of ops cpu ++ cond b (on ∷ []) []) (eq-eqb on.cpu cpu own)

-- the lane of another doesn't
other_lane_more : (ops : List OnOp) (on : OnOp) (cpu : ℕ) → on.cpu ≢ cpu → lane_of (ops ++ on ∷ []) cpu ≡ lane_of ops cpu
other_lane_more ops on cpu other = lane_more ops on cpu ∙ ap (λ (b : Bool). lane_of ops cpu ++ cond b (on ∷ []) []) (ne_eqb on.cpu cpu other) ∙ append-nil (lane_of ops cpu)

lane_at : (count : ℕ) (ops : List OnOp) (cpu : ℕ) (d : Lane) → cpu < count → get_or (lanes_of count ops) cpu d ≡ lane_of ops cpu
lane_at count ops cpu d below = get_or-map-range_with_len (lane_of ops) 0 count cpu cpu d below (omega arith)

pub lanes_long : (count : ℕ) (ops : List OnOp) → length (lanes_of count ops) ≡ count
lanes_long count ops = length-map-range_with_len (lane_of ops) 0 count

-- an op of a CPU that has a lane
pub op_more : {V : Type 0} (items : V → Lane) (count : ℕ) (ops : List OnOp) (on : OnOp) (lanes : List V) (was lane : V) → map items lanes ≡ lanes_of count ops → on.cpu < length lanes → was ≡ get_or lanes on.cpu was → items lane ≡ items was ++ on ∷ []
    → map items (slice_set lanes on.cpu lane) ≡ lanes_of count (ops ++ on ∷ [])
op_more items count ops on lanes was lane is within here more =
    map-set items lanes on.cpu lane ∙ ap (λ (ls : List Lane). slice_set ls on.cpu (items lane)) is
    ∙ same_lists _ _ (length-set (lanes_of count ops) on.cpu (items lane) ∙ lanes_long count ops ∙ sym (lanes_long count (ops ++ on ∷ [])))
    (λ cpu d below.
    let small : cpu < count = omega (arith, length-set (lanes_of count ops) on.cpu (items lane), lanes_long count ops) in
    at cpu d small ∙ sym (lane_at count (ops ++ on ∷ []) cpu d small))
  where
    at : (cpu : ℕ) (d : Lane) → cpu < count → get_or (slice_set (lanes_of count ops) on.cpu (items lane)) cpu d ≡ lane_of (ops ++ on ∷ []) cpu
    at cpu d small = elim (cases_eq on.cpu cpu) [
      | inl own ↦ subst (λ k. get_or (slice_set (lanes_of count ops) on.cpu (items lane)) k d ≡ lane_of (ops ++ on ∷ []) k) own
          (get_or-set_same (lanes_of count ops) on.cpu (items lane) d (omega (arith, own, small, lanes_long count ops)) ∙ more
          ∙ ap (λ (l : Lane). l ++ on ∷ []) (ap items here ∙ sym (get_or-map items lanes on.cpu was d within) ∙ ap (λ (ls : List Lane). get_or ls on.cpu d) is ∙ lane_at count ops on.cpu d (omega (arith, own, small)))
          ∙ sym (own_lane_more ops on on.cpu refl))
      | inr other ↦ get_or-set_other (lanes_of count ops) on.cpu cpu (items lane) d (λ same. other (sym same)) ∙ lane_at count ops cpu d small ∙ sym (other_lane_more ops on cpu other)
    ]

-- an op of a CPU that has none
pub op_left_out : (count : ℕ) (ops : List OnOp) (on : OnOp) → count ≤ on.cpu → lanes_of count ops ≡ lanes_of count (ops ++ on ∷ [])
op_left_out count ops on past =
    same_lists _ _ (lanes_long count ops ∙ sym (lanes_long count (ops ++ on ∷ [])))
    (λ cpu d below.
    let small : cpu < count = omega (arith, lanes_long count ops) in
    lane_at count ops cpu d small ∙ sym (lane_at count (ops ++ on ∷ []) cpu d small ∙ other_lane_more ops on cpu (λ same. absurd (omega arith))))
