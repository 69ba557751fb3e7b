use Rattle.std.proofs.Common.{◌≡◌, ◌+◌, ◌<◌, ℕ, suc, List, [], All, map, set, length, ap, sym, ◌∙◌, subst, arith}
use Rattle.tag_ref.specs.Refs.{moved_by}
use Rattle.round_worker.specs.Shown.{WorkerShown}
use Rattle.round_worker.specs.Working.{IsGoing, with_returning}
use Rattle.homing.specs.Seats.{AllFind, all_in, moves_in}
use Rattle.homing.specs.Workers.{AreBeside, but_seat, seats_of}
use Rattle.homing.proofs.Turns.{Turned, OfTable, as_the_machine, cpus_are, handed_beside, handed_find, handed_table, none_turned, storage_of_all, turns, workers_are}
use Rattle.homing.proofs.home.bring_home.Goals as goal

-- the workers once this one has handed out what it freed of other nodes
abbrev handed : (c : goal.After-bring_all-arg-in-loop-index-1) → List WorkerShown
handed c = set c.loop-index.workers c.loop-index.index (with_returning [] c.index-workers-index.result)

handed_is : (c : goal.After-bring_all-arg-in-loop-index-1) → set c.loop-index.workers c.loop-index.index c.returned-going.new.self ≡ handed c
handed_is c = ap (set c.loop-index.workers c.loop-index.index) (c.returned-going.ensures.none ∙ ap (with_returning []) (sym c.index-workers-index.is))

low : (c : goal.After-bring_all-arg-in-loop-index-1) → c.loop-index.index < length c.loop-index.workers
low c = omega (arith, c.loop-index-test.true, c.loop-index.auto.workers)

sends : (c : goal.After-bring_all-arg-in-loop-index-1) → storage_of_all c.returned-going.result.items ≡ c.index-workers-index.result.seat.returning
sends c = c.returned-going.ensures.storage ∙ ap (λ (w : WorkerShown). w.seat.returning) (sym c.index-workers-index.is)

pub loop-index-init : goal.loop-index-init
loop-index-init c = none_turned c.args.workers.now c.args.cpus.now c.requires.beside c.requires.finds

pub bring_all-requires-clause-beside : goal.bring_all-requires-clause-beside
bring_all-requires-clause-beside c =
    subst (λ (ws : List WorkerShown). AreBeside ws c.loop-index.cpus) (sym (handed_is c))
    (handed_beside c.args.workers.now c.args.cpus.now c.loop-index.index c.loop-index.workers c.loop-index.cpus c.loop-index.invariant c.index-workers-index.result (low c) c.index-workers-index.is)

pub bring_all-requires-clause-table : goal.bring_all-requires-clause-table
bring_all-requires-clause-table c =
    subst (OfTable c.returned-going.result.items) (sym (handed_is c))
    (handed_table c.args.workers.now c.args.cpus.now c.loop-index.index c.loop-index.workers c.loop-index.cpus c.loop-index.invariant c.index-workers-index.result (low c) c.index-workers-index.is
    c.returned-going.result.items
    (subst (λ (w : WorkerShown). All (IsGoing w.board) c.returned-going.result.items) (sym c.index-workers-index.is) c.returned-going.ensures.own))

pub bring_all-requires-clause-finds : goal.bring_all-requires-clause-finds
bring_all-requires-clause-finds c =
    subst (λ (ws : List WorkerShown). AllFind (seats_of ws) (storage_of_all c.returned-going.result.items)) (sym (handed_is c))
    (handed_find c.args.workers.now c.args.cpus.now c.loop-index.index c.loop-index.workers c.loop-index.cpus c.loop-index.invariant c.index-workers-index.result (low c) c.index-workers-index.is (storage_of_all c.returned-going.result.items) (sends c))

pub loop-index-preserved : goal.loop-index-preserved
loop-index-preserved c =
    let workers = c.loop-index.workers in
    let index = c.loop-index.index in
    let w = c.index-workers-index.result in
    let storage = storage_of_all c.returned-going.result.items in
    let is : set workers index c.returned-going.new.self ≡ set workers index (with_returning [] w) = ap (set workers index) (c.returned-going.ensures.none ∙ ap (with_returning []) (sym c.index-workers-index.is)) in
    let below : index < length workers = omega (arith, c.loop-index-test.true, c.loop-index.auto.workers) in
    let one_more : suc index ≡ index + 1 = omega arith in
    subst (λ (n : ℕ). Turned c.args.workers.now c.args.cpus.now n c.bring_all.new.workers c.bring_all.new.cpus) one_more
    (turns c.args.workers.now c.args.cpus.now index workers c.loop-index.cpus c.loop-index.invariant w below c.index-workers-index.is storage c.bring_all.new.workers c.bring_all.new.cpus
    (c.returned-going.ensures.storage ∙ ap (λ (x : WorkerShown). x.seat.returning) (sym c.index-workers-index.is))
    (c.bring_all.ensures.seats ∙ ap (λ (ws : List WorkerShown). all_in (seats_of ws) storage) is)
    (c.bring_all.ensures.rest ∙ ap (λ (ws : List WorkerShown). map but_seat ws) is)
    (c.bring_all.ensures.cpus ∙ ap (λ (ws : List WorkerShown). map (moved_by (moves_in (seats_of ws) storage)) c.loop-index.cpus) is))

pub returns-clause-workers : goal.returns-clause-workers
returns-clause-workers c = workers_are c.args.workers.now c.args.cpus.now c.loop-index.index c.loop-index.workers c.loop-index.cpus c.loop-index.invariant (omega (arith, c.loop-index-test.false, c.loop-index.auto.workers))

pub returns-clause-home : goal.returns-clause-home
returns-clause-home c = as_the_machine c.args.workers.now c.args.cpus.now c.loop-index.index c.loop-index.workers c.loop-index.cpus c.loop-index.invariant (omega (arith, c.loop-index-test.false, c.loop-index.auto.workers))

pub returns-clause-cpus : goal.returns-clause-cpus
returns-clause-cpus c = cpus_are c.args.workers.now c.args.cpus.now c.loop-index.index c.loop-index.workers c.loop-index.cpus c.loop-index.invariant (omega (arith, c.loop-index-test.false, c.loop-index.auto.workers))

pub returns-clause-beside : goal.returns-clause-beside
returns-clause-beside c = c.loop-index.invariant.beside
