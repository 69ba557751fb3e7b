use Rattle.std.proofs.Common.{rules, ap, ◌∙◌}
use Rattle.tag_rule.specs.Shown.{CellShown}
use Rattle.tag_rule.proofs.OneByOne.{one_more}
use Rattle.tag_rule.proofs.parting.singles.Goals as goal

pub loop-rest-preserved : goal.loop-rest-preserved
loop-rest-preserved c =
    let before = c.loop-rest.invariant in
    let rest = c.divide-one.ensures.rest in
    record {
      all = one_more c.loop-rest.cells.items c.push.new.self.items _ c.loop-rest.rest c.divide-one.result.0 c.divide-one.result.1 c.in_ok-push.ensures.items c.divide-one.ensures.first rest before.none before.some before.all;
      table = ap (λ (cell : CellShown). cell.board) rest ∙ before.table;
      none = ap (λ (cell : CellShown). cell.held) rest;
      some = search rules;
    }
