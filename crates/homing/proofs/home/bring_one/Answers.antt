use Rattle.std.proofs.Common.{◌≡◌, map, set, get_or, ap, sym, ◌∙◌}
use Rattle.tag_rule.specs.Shown.{CpuShown}
use Rattle.tag_ref.specs.Refs.{moved_by}
use Rattle.slab_cache.specs.Homing.{come_home}
use Rattle.slab_cache.specs.Storage.{home_of}
use Rattle.round_worker.specs.Shown.{WorkerShown}
use Rattle.round_worker.specs.Working.{going_storage, with_node}
use Rattle.homing.specs.Workers.{but_seat, seats_of}
use Rattle.homing.proofs.WorkerLemmas.{cpus_then, rest_then, seats_then}
use Rattle.homing.proofs.home.bring_one.Goals as goal

-- the worker and its CPU, at the storage's home
worker_is : (c : goal.After-take_home) → c.index-workers-home.result ≡ get_or c.args.workers.now (home_of (going_storage c.args.one)) c.index-workers-home.result
worker_is c = c.index-workers-home.is ∙ ap (λ n. get_or c.args.workers.now n c.index-workers-home.result) c.home-home.ensures

cpu_is : (c : goal.After-take_home) → c.index-cpus-home.result ≡ get_or c.args.cpus.now (home_of (going_storage c.args.one)) c.index-cpus-home.result
cpu_is c = c.index-cpus-home.is ∙ ap (λ n. get_or c.args.cpus.now n c.index-cpus-home.result) c.home-home.ensures

worker_after : (c : goal.After-take_home) → c.take_home.new.self ≡ with_node (come_home (going_storage c.args.one) c.index-workers-home.result.seat.node).node c.index-workers-home.result
worker_after c = c.take_home.ensures.node ∙ ap (λ (w : WorkerShown). with_node (come_home (going_storage c.args.one) w.seat.node).node w) (sym c.index-workers-home.is)

cpu_after : (c : goal.After-take_home) → c.take_home.new.cpu ≡ moved_by (come_home (going_storage c.args.one) c.index-workers-home.result.seat.node).moves c.index-cpus-home.result
cpu_after c =
    c.take_home.ensures.cpu
    ∙ ap (λ (w : WorkerShown). moved_by (come_home (going_storage c.args.one) w.seat.node).moves (get_or c.args.cpus.now c.home-home.result c.index-cpus-home.result)) (sym c.index-workers-home.is)
    ∙ ap (moved_by (come_home (going_storage c.args.one) c.index-workers-home.result.seat.node).moves) (sym c.index-cpus-home.is)

pub returns-clause-seats : goal.returns-clause-seats
returns-clause-seats c =
    let workers = c.args.workers.now in
    ap (λ n. seats_of (set workers n c.take_home.new.self)) c.home-home.ensures
    ∙ ap (λ (w : WorkerShown). seats_of (set workers (home_of (going_storage c.args.one)) w)) (worker_after c)
    ∙ seats_then workers c.args.cpus.now c.requires.beside (going_storage c.args.one) c.requires.finds c.index-workers-home.result c.index-cpus-home.result (worker_is c) (cpu_is c)

pub returns-clause-rest : goal.returns-clause-rest
returns-clause-rest c =
    let workers = c.args.workers.now in
    ap (λ n. map but_seat (set workers n c.take_home.new.self)) c.home-home.ensures
    ∙ ap (λ (w : WorkerShown). map but_seat (set workers (home_of (going_storage c.args.one)) w)) (worker_after c)
    ∙ rest_then workers c.args.cpus.now c.requires.beside (going_storage c.args.one) c.requires.finds c.index-workers-home.result c.index-cpus-home.result (worker_is c) (cpu_is c)

pub returns-clause-cpus : goal.returns-clause-cpus
returns-clause-cpus c =
    let cpus = c.args.cpus.now in
    ap (λ n. set cpus n c.take_home.new.cpu) c.home-home.ensures
    ∙ ap (λ (s : CpuShown). set cpus (home_of (going_storage c.args.one)) s) (cpu_after c)
    ∙ cpus_then c.args.workers.now cpus c.requires.beside (going_storage c.args.one) c.requires.finds c.index-workers-home.result c.index-cpus-home.result (worker_is c) (cpu_is c)
