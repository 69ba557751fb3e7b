use Rattle.std.proofs.Common.{◌≡◌, IfSome, subst}
use Rattle.std.proofs.lemmas.List.Elements.{All-pop}
use Rattle.tag_rule.specs.Shown.{CellShown, CpuShown}
use Rattle.reclaim.proofs.tests.stage.new_stage.Goals as goal

pub invariant_of-result : goal.invariant_of-result
invariant_of-result c =
    let f = c.in_ok-locked.field-0 in
    let cpus = All-pop (λ (x : CpuShown). x.board ≡ f.locked.board) _ _ c.pop.result c.pop.ensures.items f.cpus_there in
    let others = All-pop (λ (x : CpuShown). x.board ≡ f.locked.board) _ _ c.pop-2.result c.pop-2.ensures.items cpus.0 in
    let spares = All-pop (λ (x : CellShown). x.board ≡ f.locked.board) _ _ c.pop-3.result c.pop-3.ensures.items f.cells_there in
    let cells = All-pop (λ (x : CellShown). x.board ≡ f.locked.board) _ _ c.pop-4.result c.pop-4.ensures.items spares.0 in
    record {
      loads_there = f.loads_there;
      cpu_there = subst (λ o. IfSome o (λ (x : CpuShown). x.board ≡ f.locked.board)) c.in-Some-Some-Some-Some.is-0 cpus.1;
      cell_there = subst (λ o. IfSome o (λ (x : CellShown). x.board ≡ f.locked.board)) c.in-Some-Some-Some-Some.is-3 cells.1;
      other_there = subst (λ o. IfSome o (λ (x : CpuShown). x.board ≡ f.locked.board)) c.in-Some-Some-Some-Some.is-1 others.1;
      spare_there = subst (λ o. IfSome o (λ (x : CellShown). x.board ≡ f.locked.board)) c.in-Some-Some-Some-Some.is-2 spares.1;
    }
