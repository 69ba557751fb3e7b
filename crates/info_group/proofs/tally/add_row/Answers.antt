use Rattle.std.proofs.Common.{◌≡◌, ap, ◌∙◌, arith}
use Rattle.std.specs.FinMap.{find}
use Rattle.std.proofs.Common.{None}
use Rattle.info_read.specs.Views.{row_view}
use Rattle.info_group.specs.Grouping.{byte_order}
use Rattle.info_group.specs.Tally.{by_name, grown}
use Rattle.info_group.proofs.TallyLemmas.{begun, first_sums}
use Rattle.info_group.proofs.tally.add_row.Goals as goal

pub returns : goal.returns
returns c =
    let row = row_view c.args.row in
    let name = c.args.name.now in
    let key = c.in_ok-key.key in
    let apart = c.raise.ensures.none c.if-raise.false in
    let items : key.items ≡ name = c.in_ok-key.ensures.items in
    let none : find byte_order key.items (by_name c.raise.new.sums) ≡ None = ap (λ k. find byte_order k (by_name c.raise.new.sums)) items ∙ (ap (find byte_order name) apart.1 ∙ apart.0) in
    begun c.raise.new.sums.entries c.insert.new.self.entries key row _ none (first_sums row (omega arith) (omega arith)) c.in_ok-insert.ensures.entries
    ∙ ap (λ k. grown k row (by_name c.raise.new.sums)) items ∙ ap (grown name row) apart.1
