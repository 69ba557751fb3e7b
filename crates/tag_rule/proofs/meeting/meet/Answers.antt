use Rattle.std.proofs.Common.{ap, ◌∙◌}
use Rattle.tag_rule.specs.Shown.{CellShown}
use Rattle.tag_rule.proofs.Keeps.{same_moves}
use Rattle.tag_rule.proofs.Meets.{meet_covers, tells_all}
use Rattle.tag_rule.proofs.meeting.meet.Goals as goal

pub exchange-requires-clause-moves : goal.exchange-requires-clause-moves
exchange-requires-clause-moves c = same_moves _ _

pub exchange-requires-clause-tells : goal.exchange-requires-clause-tells
exchange-requires-clause-tells c = tells_all _ _

pub returns-clause-covered : goal.returns-clause-covered
returns-clause-covered c tag size is =
    meet_covers _ _ _ _ _ _ _ _ tag size c.deref.ensures (ap (λ m. m.0) c.cell.invariant.me) (ap (λ m. m.0) c.list.invariant.me) c.list.view_is c.exchange.ensures.told (ap (λ (x : CellShown). x.held) c.cell.view_is ∙ is)
