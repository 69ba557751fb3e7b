use Rattle.std.proofs.Common.{refl, subst, ◌∙◌}
use Rattle.tag_rule.specs.Shown.{Board}
use Rattle.reclaim.specs.Quiet.{ScansOwn, no_own, then_own}
use Rattle.reclaim.proofs.quiet.read_own_all.Goals as goal

pub loop-reader-init : goal.loop-reader-init
loop-reader-init c = record { board = refl; reads = no_own; same = refl }

pub loop-reader-preserved : goal.loop-reader-preserved
loop-reader-preserved c =
    let inv = c.loop-reader.invariant in
    record {
      board = c.read_own_next.ensures.board ∙ inv.board;
      reads = then_own inv.reads (subst (λ xs. ScansOwn c.args.list.now.board.shape xs c.loop-reader.list.part c.read_own_next.new.list.part) inv.same (subst (λ (b : Board). ScansOwn b.shape c.loop-reader.cpus c.loop-reader.list.part c.read_own_next.new.list.part) inv.board c.read_own_next.ensures.read));
      same = c.read_own_next.ensures.same ∙ inv.same;
    }
