use Rattle.std.proofs.Common.{IsSomeAnd, ap, subst, sym, ◌∙◌}
use Rattle.module_area.specs.Entries.{Covers, entry_of}
use Rattle.tag_rule.specs.Shown.{CellShown}
use Rattle.reclaim.specs.State.{LockedShown}
use Rattle.reclaim.proofs.Tells.{covered_entry, told_some}
use Rattle.reclaim.proofs.telling.tag_of_locked.Goals as goal

pub module_tag-requires : goal.module_tag-requires
module_tag-requires c =
    let tag = c.in-Counted.tag in
    let l = c.args.locked.now in
    subst (λ (x : LockedShown). IsSomeAnd (entry_of x.area.entries tag.module) (λ e. Covers e tag.number)) (sym c.meet.ensures.same.0)
    (covered_entry l.board.shape l.area tag c.tell.ensures.book c.if-tag-eq0.false (c.meet.ensures.covered tag c.in-Counted.size (ap (λ (x : CellShown). x.held) (sym c.meet.ensures.same.1) ∙ (sym c.held.ensures ∙ c.in-Counted.is))))

pub returns-else-tag-eq0-clause-none : goal.returns-else-tag-eq0-clause-none
returns-else-tag-eq0-clause-none c =
    told_some c.args.locked.now c.args.cell.now.held c.in-Counted.tag c.in-Counted.size c.module_tag.result (ap (λ (x : CellShown). x.held) (sym c.meet.ensures.same.1) ∙ (sym c.held.ensures ∙ c.in-Counted.is)) c.if-tag-eq0.false c.module_tag.ensures.some
