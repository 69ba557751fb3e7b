use Rattle.std.proofs.Common.{◌≡◌, ◌+◌, length, rules, tests, sum_by, ap, ap₂, ◌∙◌, arith}
use Rattle.std.proofs.lemmas.Iterator.{YieldsList-from_map, YieldsList-from_slice}
use Rattle.std.proofs.lemmas.Iterator.Consumers.{fits_by_from_yields_list, sum_by_from_yields_List}
use Rattle.round_worker.specs.Shown.{WorkerShown}
use Rattle.trace_play.specs.Machine.{live_count, slab_cells}
use Rattle.trace_play.specs.Printed.{dead_of}
use Rattle.rounds.specs.Places.{machine_at}
use Rattle.rounds.proofs.EndNumbers.{failed_few, kept_is, live_few, live_is, uncounted_few}
use Rattle.rounds.proofs.desk.Desk.numbers.Goals as goal

pub sum-requires-clause-fits : goal.sum-requires-clause-fits
sum-requires-clause-fits c =
    let f = λ (w : WorkerShown). w.failed in
    fits_by_from_yields_list f _ c.map.result _ (YieldsList-from_map _ f (YieldsList-from_slice c.as_slice-workers.result.now cc) c.map.ensures.closure (λ x r q k. search (rules, tests)))
    (omega (arith, ap (sum_by f) c.as_slice-workers.ensures.value, failed_few c.requires.place c.args.self.now c.requires.there))

pub sum-requires-2-clause-fits : goal.sum-requires-2-clause-fits
sum-requires-2-clause-fits c =
    let f = λ (w : WorkerShown). w.uncounted in
    fits_by_from_yields_list f _ c.map-2.result _ (YieldsList-from_map _ f (YieldsList-from_slice c.as_slice-workers.result.now cc) c.map-2.ensures.closure (λ x r q k. search (rules, tests)))
    (omega (arith, ap (sum_by f) c.as_slice-workers.ensures.value, uncounted_few c.requires.place c.args.self.now c.requires.there))

pub sum-requires-3-clause-fits : goal.sum-requires-3-clause-fits
sum-requires-3-clause-fits c =
    let f = λ (w : WorkerShown). length (slab_cells w.seat.node) in
    fits_by_from_yields_list f _ c.map-3.result _ (YieldsList-from_map _ f (YieldsList-from_slice c.as_slice-workers.result.now cc) c.map-3.ensures.closure (λ x r q k. search (rules, tests)))
    (omega (arith, ap (sum_by f) c.as_slice-workers.ensures.value, live_few c.requires.place c.args.self.now c.requires.there))

-- so many slabs were counted
slabs_are : (c : goal.After-sum-3) → c.sum-3.result ≡ sum_by (λ (w : WorkerShown). length (slab_cells w.seat.node)) c.args.self.now.workers.items
slabs_are c =
    let f = λ (w : WorkerShown). length (slab_cells w.seat.node) in
    sum_by_from_yields_List f _ c.map-3.result _ c.sum-3.ensures.ran (YieldsList-from_map _ f (YieldsList-from_slice c.as_slice-workers.result.now cc) c.map-3.ensures.closure (λ x r q k. search (rules, tests)))
    ∙ ap (sum_by f) c.as_slice-workers.ensures.value

pub overflow_add-result : goal.overflow_add-result
overflow_add-result c = omega (arith, c.counted.ensures, slabs_are c, live_few c.requires.place c.args.self.now c.requires.there)

pub returns : goal.returns
returns c p at =
    let d = c.args.self.now in
    let m = machine_at p in
    let f = λ (w : WorkerShown). w.failed in
    let g = λ (w : WorkerShown). w.uncounted in
    let workers = c.as_slice-workers.ensures.value in
    let failed : c.sum.result ≡ m.tally.failed =
    sum_by_from_yields_List f _ c.map.result _ c.sum.ensures.ran (YieldsList-from_map _ f (YieldsList-from_slice c.as_slice-workers.result.now cc) c.map.ensures.closure (λ x r q k. search (rules, tests)))
    ∙ ap (sum_by f) workers ∙ at.workers.failed in
    let uncounted : c.sum-2.result ≡ m.tally.uncounted =
    sum_by_from_yields_List g _ c.map-2.result _ c.sum-2.ensures.ran (YieldsList-from_map _ g (YieldsList-from_slice c.as_slice-workers.result.now cc) c.map-2.ensures.closure (λ x r q k. search (rules, tests)))
    ∙ ap (sum_by g) workers ∙ at.workers.uncounted in
    let live : c.counted.result + c.sum-3.result ≡ live_count m = ap₂ (λ a b. a + b) c.counted.ensures (slabs_are c.before) ∙ live_is p d at in
    let kept : c.kept_in.result ≡ length (dead_of m) = c.kept_in.ensures ∙ kept_is p d at in
    λ i. record { rounds = c.args.rounds; ops = c.args.ops; failed = failed i; uncounted = uncounted i; live = live i; kept = kept i }
