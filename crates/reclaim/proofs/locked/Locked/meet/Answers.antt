use Rattle.std.proofs.Common.{sym, ap, ◌∙◌}
use Rattle.tag_model.specs.declared.state.ListPart.{ListPart}
use Rattle.tag_model.specs.Telling.{is_covered_by}
use Rattle.reclaim.specs.State.{LockedShown, part_of}
use Rattle.reclaim.proofs.locked.Locked.meet.Goals as goal

pub returns-clause-covered : goal.returns-clause-covered
returns-clause-covered c tag size counted =
    ap (λ (x : LockedShown). is_covered_by x.board.shape (part_of x).records tag) (sym c.self.view_is)
    ∙ (ap (λ (x : ListPart). is_covered_by c.self.inside.list.board.shape x.records tag) (sym c.self.invariant.part) ∙ c.meet.ensures.covered tag size counted)
