use Rattle.tag_rule.proofs.Changed.{change_after, change_moves, change_tells, keep_shown, row_shown}
use Rattle.tag_rule.proofs.changing.change_list.Goals as goal

pub turn-requires-clause-moves : goal.turn-requires-clause-moves
turn-requires-clause-moves c = change_moves _ _ _ _ c.deref-words.ensures c.list.invariant c.list.view_is c.requires

pub turn-requires-clause-tells : goal.turn-requires-clause-tells
turn-requires-clause-tells c = change_tells _ _ _ _ c.deref-words.ensures c.list.invariant c.list.view_is c.requires

pub keep-requires : goal.keep-requires
keep-requires c = keep_shown _ _ _ _ c.deref-words.ensures c.list.invariant c.list.view_is c.requires

pub invariant_of-list : goal.invariant_of-list
invariant_of-list c = change_after _ _ _ _ c.deref-words.ensures c.list.invariant c.list.view_is c.requires _ _ c.turn.ensures.seat.0 c.turn.ensures.seat.1 c.turn.ensures.seat.2 c.keep.ensures

pub returns-clause-row : goal.returns-clause-row
returns-clause-row c = row_shown _ _ _ _ c.deref-words.ensures c.list.invariant c.list.view_is c.requires _ c.turn.ensures.seat.1
