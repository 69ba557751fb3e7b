use Rattle.std.proofs.Common.{◌≡◌, ◌-◌, Global, Vec, map}
use Rattle.tag_rule.specs.Shown.{PoolShown}
use Rattle.plant.specs.Fresh.{fresh_workers, pages_from, vectors_from}
use Rattle.plant.proofs.starting.make_workers.Given as goal

abbrev pub invariant-loop-cpu : goal.invariant-loop-cpu
invariant-loop-cpu l = record {
  workers : l.workers.items ≡ fresh_workers l.list.board l.trace.frames l.trace.vectors l.cpu;
  pages : l.pages.items ≡ pages_from l.list.board l.cpu (l.fn.shape.cpus - l.cpu);
  vectors : map (λ (v : Vec PoolShown Global). v.items) l.vectors.items ≡ vectors_from l.list.board l.cpu (l.fn.shape.cpus - l.cpu);
}
