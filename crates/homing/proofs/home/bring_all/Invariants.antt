use Rattle.std.specs.Vec.Iter.{into_iter_items}
use Rattle.homing.proofs.Turns.{Bringing, storage_of_all}
use Rattle.homing.proofs.home.bring_all.Given as goal

abbrev pub invariant-loop-one : goal.invariant-loop-one
invariant-loop-one l = record {
  next : (goal.iterator-loop-one).can_next l.one-iterator;
  finite : (goal.iterator-loop-one).is_finite l.one-iterator;
  brings : Bringing l.initial.workers l.initial.cpus (storage_of_all l.fn.going.items) (into_iter_items l.one-iterator) l.workers l.cpus;
}
