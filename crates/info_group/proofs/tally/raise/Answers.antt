use Rattle.std.proofs.Common.{sym, ap, ◌∙◌}
use Rattle.info_read.specs.Views.{row_view}
use Rattle.info_group.specs.Tally.{by_name, with_row}
use Rattle.info_group.proofs.TallyLemmas.{named-find, raised}
use Rattle.info_group.proofs.tally.raise.Goals as goal

pub returns-in-Some-clause-raised : goal.returns-in-Some-clause-raised
returns-in-Some-clause-raised c = λ _.
    let row = row_view c.args.row in
    let w = with_row c.in-Some.sum.now row in
    raised c.args.sums.now.entries (c.get_mut.follows.lender w).entries c.args.name.now row c.in-Some.sum.now c.get_mut.ensures.ordered
    (sym c.in-Some.ensures.value) (c.get_mut.follows.holds w).0

pub returns-in-None-clause-none : goal.returns-in-None-clause-none
returns-in-None-clause-none c = λ _. (
  sym (named-find c.args.sums.now.entries c.args.name.now) ∙ sym c.in-None.ensures.value,
  ap by_name c.get_mut.follows.holds-at-none,
)
