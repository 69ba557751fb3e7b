use Rattle.std.proofs.Common.{List, slice_get, subst, sym, ◌∙◌}
use Rattle.tag_model.specs.declared.state.Tag.{Tag}
use Rattle.tag_rule.specs.Shown.{Board}
use Rattle.slab_cache.specs.Shown.{IsOfTable, cell_of, state_of}
use Rattle.round_worker.specs.Shown.{Ready, WorkerShown}
use Rattle.round_worker.specs.Working.{IsWorker}
use Rattle.trace_play.proofs.CellsFound.{MaybeSize, object_size}
use Rattle.round_worker.proofs.CountLemmas.{long_now}
use Rattle.round_worker.proofs.Given.{given_live}
use Rattle.round_worker.proofs.Keeps.{may_count_current, node_keeps}
use Rattle.round_worker.proofs.worker.Worker.kmalloc.Goals as goal

pub object-requires-clause-allowed : goal.object-requires-clause-allowed
object-requires-clause-allowed c =
    let ready = subst (λ (w : WorkerShown). Ready w c.args.cpu.now) (sym c.self.view_is) c.requires.ready in
    may_count_current c.self.inside.hooks c.args.cpu.now ready.allowed

pub give_object-requires-clause-kept : goal.give_object-requires-clause-kept
give_object-requires-clause-kept c =
    let me = c.self.inside in
    let ready = subst (λ (w : WorkerShown). Ready w c.args.cpu.now) (sym c.self.view_is) c.requires.ready in
    let g = c.in-Ok.ensures.gives in (
      subst (λ (b : Board). IsOfTable b (cell_of c.in-Ok.obj.stored)) (sym (g.becomes.board ∙ ready.table)) g.table,
      g.suits,
      given_live (slice_get me.hooks 0) (state_of me.node) c.args.size g.given c.in-Ok.obj.stored g.is g.object,
    )

pub invariant_of-self : goal.invariant_of-self
invariant_of-self c =
    let me = c.self.inside in
    let g = c.in-Ok.ensures.gives in
    let size = subst (MaybeSize (state_of me.node)) g.is (object_size (slice_get me.hooks 0) c.args.size (state_of me.node)) in
    let long = long_now g.given.node me.node c.object.new.node g.becomes size.slabs in
    subst (λ (hooks : List Tag). IsWorker me.frames c.object.new.node hooks me.keys me.returning.items) (sym c.object.ensures.hooks)
    (node_keeps me.frames me.node me.hooks me.keys me.returning.items c.self.invariant c.object.new.node g.becomes.board g.becomes.stands long)
