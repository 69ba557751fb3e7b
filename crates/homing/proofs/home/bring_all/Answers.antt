use Rattle.std.proofs.Common.{◌∷◌, [], List, refl, sym, ◌∙◌, subst, arith}
use Rattle.std.proofs.lemmas.List.{nil_from_length}
use Rattle.std.specs.Vec.Iter.{into_iter_items}
use Rattle.round_worker.specs.declared.worker.Going.{Going}
use Rattle.homing.proofs.CpuLemmas.{none_moved}
use Rattle.homing.proofs.Turns.{Bringing, brings_one, one_of_table, storage_of_all}
use Rattle.homing.proofs.home.bring_all.Goals as goal

-- what is left goes home, the next one first
next_goes : (c : goal.After-bring_one-arg-in-loop-one-1) → Bringing c.args.workers.now c.args.cpus.now (storage_of_all c.args.going.items) (c.in-Some.one ∷ into_iter_items c.next.new.self) c.loop-one.workers c.loop-one.cpus
next_goes c = subst (λ (rest : List Going). Bringing c.args.workers.now c.args.cpus.now (storage_of_all c.args.going.items) rest c.loop-one.workers c.loop-one.cpus) c.in-Some.ensures.steps.0 c.loop-one.invariant.brings

pub loop-one-init : goal.loop-one-init
loop-one-init c = record {
  next = tt;
  finite = tt;
  brings = subst (λ (rest : List Going). Bringing c.args.workers.now c.args.cpus.now (storage_of_all c.args.going.items) rest c.args.workers.now c.args.cpus.now) (sym c.into_iter-one-iterator.ensures.into_iter_gives.0)
      (record { beside = c.requires.beside; table = c.requires.table; finds = c.requires.finds; home = refl; same = refl; moved = refl });
}

pub bring_one-requires-clause-beside : goal.bring_one-requires-clause-beside
bring_one-requires-clause-beside c = (next_goes c).beside

pub bring_one-requires-clause-table : goal.bring_one-requires-clause-table
bring_one-requires-clause-table c = one_of_table c.args.workers.now c.args.cpus.now (storage_of_all c.args.going.items) c.in-Some.one (into_iter_items c.next.new.self) c.loop-one.workers (next_goes c).table

pub bring_one-requires-clause-finds : goal.bring_one-requires-clause-finds
bring_one-requires-clause-finds c = (next_goes c).finds.0

pub loop-one-preserved : goal.loop-one-preserved
loop-one-preserved c =
    let rest = into_iter_items c.next.new.self in
    let goes = subst (λ (rest : List Going). Bringing c.args.workers.now c.args.cpus.now (storage_of_all c.args.going.items) rest c.loop-one.workers c.loop-one.cpus) c.in-Some.ensures.steps.0 c.loop-one.invariant.brings in
    record {
      next = tt;
      finite = tt;
      brings = brings_one c.args.workers.now c.args.cpus.now (storage_of_all c.args.going.items) c.in-Some.one rest c.loop-one.workers c.bring_one.new.workers c.loop-one.cpus c.bring_one.new.cpus goes c.bring_one.ensures.seats c.bring_one.ensures.rest c.bring_one.ensures.cpus;
    }

-- nothing is left
all_gone : (c : goal.After-drop-one-iterator) → Bringing c.args.workers.now c.args.cpus.now (storage_of_all c.args.going.items) [] c.loop-one.workers c.loop-one.cpus
all_gone c = subst (λ (rest : List Going). Bringing c.args.workers.now c.args.cpus.now (storage_of_all c.args.going.items) rest c.loop-one.workers c.loop-one.cpus) (nil_from_length (into_iter_items c.loop-one.one-iterator) (let ok = c.loop-one.one-iterator.rest.ok in let none = c.in-None.ensures.steps.0 in omega (arith, ok, none))) c.loop-one.invariant.brings

pub returns-clause-seats : goal.returns-clause-seats
returns-clause-seats c = (all_gone c).home

pub returns-clause-rest : goal.returns-clause-rest
returns-clause-rest c = (all_gone c).same

pub returns-clause-cpus : goal.returns-clause-cpus
returns-clause-cpus c = sym (none_moved c.loop-one.cpus) ∙ (all_gone c).moved
