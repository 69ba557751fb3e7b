use Rattle.std.proofs.Common.{◌≡◌, All, IfSome, sym, ◌∙◌, subst}
use Rattle.std.proofs.lemmas.List.{with_items_is}
use Rattle.std.proofs.lemmas.List.Elements.{All-pop}
use Rattle.tag_rule.specs.Shown.{Board, CellShown, CpuShown}
use Rattle.reclaim.proofs.tests.yard.new_yard.Goals as goal

pub new_side-requires-clause-cpu : goal.new_side-requires-clause-cpu
new_side-requires-clause-cpu c =
    let f = c.in_ok-locked.field-0 in
    let board : c.count_all.new.locked.board ≡ f.locked.board = c.count_all.ensures.list ∙ c.load_first.ensures in
    let one = All-pop (λ (x : CpuShown). x.board ≡ f.locked.board) _ _ c.pop.result c.pop.ensures.items f.cpus_there in
    let two = All-pop (λ (x : CpuShown). x.board ≡ f.locked.board) _ _ c.pop-2.result c.pop-2.ensures.items one.0 in
    let three = All-pop (λ (x : CpuShown). x.board ≡ f.locked.board) _ _ c.pop-3.result c.pop-3.ensures.items two.0 in
    subst (λ o. IfSome o (λ (x : CpuShown). x.board ≡ f.locked.board)) c.in-Some-pop-2.is three.1 ∙ sym board

pub new_side-requires-2-clause-cpu : goal.new_side-requires-2-clause-cpu
new_side-requires-2-clause-cpu c =
    let f = c.in_ok-locked.field-0 in
    let board : c.count_all.new.locked.board ≡ f.locked.board = c.count_all.ensures.list ∙ c.load_first.ensures in
    let one = All-pop (λ (x : CpuShown). x.board ≡ f.locked.board) _ _ c.pop.result c.pop.ensures.items f.cpus_there in
    let two = All-pop (λ (x : CpuShown). x.board ≡ f.locked.board) _ _ c.pop-2.result c.pop-2.ensures.items one.0 in
    subst (λ o. IfSome o (λ (x : CpuShown). x.board ≡ f.locked.board)) c.in-Some-pop.is two.1 ∙ sym board

pub new_side-requires-clause-cells : goal.new_side-requires-clause-cells
new_side-requires-clause-cells c =
    let f = c.in_ok-locked.field-0 in
    let all = subst (λ (b : Board). All (λ (x : CellShown). x.board ≡ b) c.count_all.new.cells) (sym c.count_all.ensures.list) c.count_all.ensures.cells in
    subst (λ xs. All (λ (x : CellShown). x.board ≡ c.count_all.new.locked.board) xs) (sym (with_items_is f.cells c.count_all.new.cells (c.count_all.auto.cells ∙ c.as_mut_slice.ensures.len))) all

pub invariant_of-result : goal.invariant_of-result
invariant_of-result c =
    let f = c.in_ok-locked.field-0 in
    let board : c.count_all.new.locked.board ≡ f.locked.board = c.count_all.ensures.list ∙ c.load_first.ensures in
    let one = All-pop (λ (x : CpuShown). x.board ≡ f.locked.board) _ _ c.pop.result c.pop.ensures.items f.cpus_there in
    let keeper : c.in-Some.keeper.board ≡ f.locked.board = subst (λ o. IfSome o (λ (x : CpuShown). x.board ≡ f.locked.board)) c.in-Some.is one.1 in
    let last = All-pop (λ (x : CellShown). x.board ≡ c.count_all.new.locked.board) _ _ c.pop-4.result c.pop-4.ensures.items c.in_ok-other.ensures.cells in
    record {
      one_there = subst (λ o. IfSome o (λ side. side.cpu.board ≡ c.count_all.new.locked.board)) c.in-Some-Some-Some.is-0 c.in_ok-one.ensures.side;
      other_there = subst (λ o. IfSome o (λ side. side.cpu.board ≡ c.count_all.new.locked.board)) c.in-Some-Some-Some.is-1 c.in_ok-other.ensures.side;
      keeper_there = c.count_all.ensures.keeper ∙ (keeper ∙ sym board);
      kept_there = subst (λ o. IfSome o (λ (x : CellShown). x.board ≡ c.count_all.new.locked.board)) c.in-Some-Some-Some.is-2 last.1;
      rests = c.in-Some-count_all.ensures.rests;
    }
