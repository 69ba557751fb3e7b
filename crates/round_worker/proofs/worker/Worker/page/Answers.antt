use Rattle.std.proofs.Common.{OnOk, Option, slice_get, subst, sym}
use Rattle.tag_model.specs.declared.state.Tag.{Tag}
use Rattle.page_ext.specs.Paging.{GivesBlock, MayCount}
use Rattle.page_ext.specs.Shown.{NodeShown}
use Rattle.trace.specs.declared.traces.TraceOp.TheVariants as op
use Rattle.trace_play.specs.Worker.{done}
use Rattle.round_worker.specs.Shown.{Leaves, Ready, WorkerShown, at_start}
use Rattle.slab_cache.specs.NodeLending.{with_node}
use Rattle.round_worker.specs.Working.{shown}
use Rattle.round_worker.proofs.KeptLemmas.{on_ok}
use Rattle.round_worker.proofs.DoneLemmas.{page_given}
use Rattle.round_worker.proofs.Keeps.{may_count_current, page_keeps}
use Rattle.round_worker.proofs.worker.Worker.page.Goals as goal

pub alloc_pages-requires-clause-allowed : goal.alloc_pages-requires-clause-allowed
alloc_pages-requires-clause-allowed c =
    let ready = subst (λ (w : WorkerShown). Ready w c.args.cpu.now) (sym c.self.view_is) c.requires.ready in
    subst (λ (tag : Option Tag). MayCount tag c.args.cpu.now) (sym c.task.ensures.current) (may_count_current c.self.inside.hooks c.args.cpu.now ready.allowed)

pub invariant_of-self : goal.invariant_of-self
invariant_of-self c =
    let me = c.self.inside in
    let ready = subst (λ (w : WorkerShown). Ready w c.args.cpu.now) (sym c.self.view_is) c.requires.ready in
    let gives : GivesBlock c.task.result.now.current c.args.order me.node.node c.alloc_pages.new.node c.args.cpu.now c.alloc_pages.new.cpu c.in-Ok.block =
    subst (λ (n : NodeShown). GivesBlock c.task.result.now.current c.args.order n c.alloc_pages.new.node c.args.cpu.now c.alloc_pages.new.cpu c.in-Ok.block) c.node_mut.ensures.value c.in-Ok.ensures.gives in
    page_keeps me.frames me.node me.hooks me.keys me.returning.items c.self.invariant c.put.result c.task.result.now.current c.args.order c.args.key c.in-Ok.block c.alloc_pages.new.node c.put.new.self
    c.args.cpu.now c.alloc_pages.new.cpu ready.table gives c.put.ensures.put c.put.ensures.err

pub returns-in-Ok : goal.returns-in-Ok
returns-in-Ok c =
    let me = c.self.inside in
    let ready = subst (λ (w : WorkerShown). Ready w c.args.cpu.now) (sym c.self.view_is) c.requires.ready in
    let gives : GivesBlock (slice_get me.hooks 0) c.args.order me.node.node c.alloc_pages.new.node c.args.cpu.now c.alloc_pages.new.cpu c.in-Ok.block =
    subst (λ (n : NodeShown). GivesBlock (slice_get me.hooks 0) c.args.order n c.alloc_pages.new.node c.args.cpu.now c.alloc_pages.new.cpu c.in-Ok.block) c.node_mut.ensures.value
    (subst (λ (tag : Option Tag). GivesBlock tag c.args.order c.node_mut.result.now c.alloc_pages.new.node c.args.cpu.now c.alloc_pages.new.cpu c.in-Ok.block) c.task.ensures.current c.in-Ok.ensures.gives) in
    subst (λ (w : WorkerShown). OnOk c.put.result (Leaves (done w.entries (op.Page c.args.key c.args.order) (at_start w)) w
    (shown (with_node me.node c.alloc_pages.new.node) me.hooks c.put.new.self me.returning.items me.entries.items me.failed me.uncounted) c.args.cpu.now c.alloc_pages.new.cpu))
    c.self.view_is
    (on_ok c.put.result
    (page_given me.node me.hooks me.keys me.returning.items me.entries.items me.failed me.uncounted c.args.key c.args.order c.in-Ok.block c.alloc_pages.new.node c.put.new.self c.args.cpu.now c.alloc_pages.new.cpu ready.own gives)
    c.put.ensures.put)
