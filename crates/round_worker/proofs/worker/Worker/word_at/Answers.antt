use Rattle.std.proofs.Common.{◌≡◌, ◌+◌, ap, sym, ◌∙◌, arith}
use Rattle.tag_rule.specs.Shown.{Board}
use Rattle.trace_play.specs.Left.{word_at}
use Rattle.trace_play.specs.Machine.{slab_cells}
use Rattle.round_worker.specs.Shown.{WorkerShown}
use Rattle.round_worker.proofs.CellLemmas.{StandsIn, slabs_found}
use Rattle.round_worker.proofs.worker.Worker.word_at.Goals as goal

pub returns : goal.returns
returns c =
    let node = c.self.inside.node in
    let stands : StandsIn node.node.board.shape node.node.node.cpu 0 node.slabs = record {
      each = λ i slab at.
          let here = c.tell.ensures i slab at in
          (ap (λ (b : Board). b.shape) (c.self.invariant.stands.slab_cells i slab at), here.home ∙ sym c.self.invariant.stands.own, here.begins ∙ (let same : i ≡ 0 + i = omega arith in same));
    } in
    c.word_among.ensures ∙ slabs_found node.node.board.shape c.args.cell node.node.node.cpu 0 node.slabs stands
    ∙ ap (λ (w : WorkerShown). word_at w.board.shape c.args.cell (slab_cells w.seat.node)) c.self.view_is
