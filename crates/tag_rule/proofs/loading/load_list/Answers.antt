use Rattle.std.proofs.Common.{refl}
use Rattle.tag_rule.proofs.Loads.{new_record, load_moves, load_tells, above_kept, row_shown}
use Rattle.tag_rule.proofs.loading.load_list.Goals as goal

pub exchange-requires-clause-moves : goal.exchange-requires-clause-moves
exchange-requires-clause-moves c = load_moves _ _ _ _ _ (new_record c.pass.inside.next c.args.section c.args.start c.args.size) c.deref-words.ensures c.list.invariant c.pass.invariant c.list.view_is c.pass.view_is c.requires.table refl c.requires.range

pub exchange-requires-clause-tells : goal.exchange-requires-clause-tells
exchange-requires-clause-tells c = load_tells _ _ _ _ _ (new_record c.pass.inside.next c.args.section c.args.start c.args.size) c.deref-words.ensures c.list.invariant c.pass.invariant c.list.view_is c.pass.view_is c.requires.table refl c.requires.range

pub load-requires-clause-above : goal.load-requires-clause-above
load-requires-clause-above c =
    above_kept _ _ _ _ _ (new_record c.pass.inside.next c.args.section c.args.start c.args.size) c.deref-words.ensures c.list.invariant c.pass.invariant c.list.view_is c.pass.view_is c.requires.table refl c.requires.range c.exchange.ensures.told.1

pub returns-clause-row : goal.returns-clause-row
returns-clause-row c =
    row_shown _ _ _ _ _ (new_record c.pass.inside.next c.args.section c.args.start c.args.size) c.deref-words.ensures c.list.invariant c.pass.invariant c.list.view_is c.pass.view_is c.requires.table refl c.requires.range _ c.exchange.ensures.one.1
