use Rattle.std.proofs.Common.{List, take, drop, rules}
use Rattle.tag_model.specs.declared.state.Part.{Part}
use Rattle.tag_rule.specs.Writing.{written}
use Rattle.tag_rule.proofs.Lending.{lent_to, stepped_me, back_to, stores_at}
use Rattle.tag_rule.proofs.writing.write_first.Goals as goal

pub store-requires-clause-step : goal.store-requires-clause-step
store-requires-clause-step c =
    stores_at _ _ _ _ _ _ _ (lent_to _ _ c.args.cells.now.me _ c.split_off-lent.ensures.gone.1 c.unite_seat.ensures.seat.1 c.requires.bare.0) c.word_of.ensures c.requires.step

pub returns-clause-cpu : goal.returns-clause-cpu
returns-clause-cpu c =
    let lent = lent_to _ _ c.args.cells.now.me _ c.split_off-lent.ensures.gone.1 c.unite_seat.ensures.seat.1 c.requires.bare.0 in
    let stored = stepped_me _ _ (λ (ps : List Part). written c.args.write.now.hand c.args.write.now.held ps) _ lent c.store.ensures.seat.1 in
    (search rules, stepped_me _ _ (λ (ps : List Part). take 1 ps) _ stored c.split_off-back.ensures.kept.1)

pub returns-clause-cells : goal.returns-clause-cells
returns-clause-cells c =
    let lent = lent_to _ _ c.args.cells.now.me _ c.split_off-lent.ensures.gone.1 c.unite_seat.ensures.seat.1 c.requires.bare.0 in
    let stored = stepped_me _ _ (λ (ps : List Part). written c.args.write.now.hand c.args.write.now.held ps) _ lent c.store.ensures.seat.1 in
    (search rules, back_to _ c.args.cells.now.me c.split_off-lent.new.seat.me c.split_off-back.result.me (λ (ps : List Part). drop 1 ps) _ _ stored c.split_off-back.ensures.gone.1 c.split_off-lent.ensures.kept.1 c.requires.bare.1 c.unite_seat-2.ensures.seat.1)
