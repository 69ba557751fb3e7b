use Rattle.std.proofs.Common.{refl, subst, ◌∙◌}
use Rattle.tag_rule.specs.Shown.{Board}
use Rattle.reclaim.specs.Steps.{ScansOne, no_read, then_read}
use Rattle.reclaim.proofs.sweeping.read_all.Goals as goal

pub loop-list-init : goal.loop-list-init
loop-list-init c = record { board = refl; reads = no_read }

pub loop-list-preserved : goal.loop-list-preserved
loop-list-preserved c =
    let inv = c.loop-list.invariant in
    record {
      board = c.read_next.ensures.board ∙ inv.board;
      reads = then_read inv.reads (subst (λ (b : Board). ScansOne b.shape c.loop-list.list.part c.read_next.new.list.part) inv.board c.read_next.ensures.read);
    }
