use Rattle.std.proofs.Common.{◌≡◌, inl, inr, subst, sym, ◌∙◌}
use Rattle.std.proofs.lemmas.Bool.{cases_eq}
use Rattle.slab_cache.specs.Storage.{home_of}
use Rattle.slab_cache.specs.Homing.{come_home}
use Rattle.slab_cache.specs.Shown.{SlabNodeShown, state_of, storage_of}
use Rattle.round_worker.specs.Working.{IsWorker}
use Rattle.trace_play.proofs.CellsFound.{home_size}
use Rattle.round_worker.proofs.CountLemmas.{long_now}
use Rattle.round_worker.proofs.Keeps.{node_keeps}
use Rattle.round_worker.proofs.KeyLemmas.{never}
use Rattle.round_worker.proofs.worker.Worker.free_object.Goals as goal

pub invariant_of-self : goal.invariant_of-self
invariant_of-self c =
    let me = c.self.inside in
    let same : c.kfree.new.node ≡ me.node = elim (cases_eq (home_of (storage_of c.args.obj.stored)) c.args.cpu.now.part.number) [
      | inl here ↦ never c.in-Some.back (sym (c.kfree.ensures.home here).0 ∙ c.in-Some.is)
      | inr other ↦ (c.kfree.ensures.away other).1
    ] in
    subst (λ (n : SlabNodeShown). IsWorker me.frames n me.hooks me.keys me.returning.items) (sym same) c.self.invariant

pub invariant_of-self-in-None : goal.invariant_of-self-in-None
invariant_of-self-in-None c =
    let me = c.self.inside in
    let given = storage_of c.args.obj.stored in
    elim (cases_eq (home_of given) c.args.cpu.now.part.number) [
      | inl here ↦
          let now = (c.kfree.ensures.home here).1.becomes in
          node_keeps me.frames me.node me.hooks me.keys me.returning.items c.self.invariant c.kfree.new.node now.board now.stands
          (long_now (come_home given (state_of me.node)).node me.node c.kfree.new.node now (home_size given (state_of me.node)).slabs)
      | inr other ↦ never _ (sym c.in-None.is ∙ (c.kfree.ensures.away other).0)
    ]
