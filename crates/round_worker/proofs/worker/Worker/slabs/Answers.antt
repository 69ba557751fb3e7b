use Rattle.std.proofs.Common.{length, ap, sym, ◌∙◌}
use Rattle.trace_play.specs.Machine.{slab_cells}
use Rattle.round_worker.specs.Shown.{WorkerShown}
use Rattle.round_worker.proofs.CountLemmas.{slabs_counted}
use Rattle.round_worker.proofs.worker.Worker.slabs.Goals as goal

pub returns : goal.returns
returns c = c.slabs_in.ensures ∙ sym (slabs_counted c.self.inside.node) ∙ ap (λ (w : WorkerShown). length (slab_cells w.seat.node)) c.self.view_is
