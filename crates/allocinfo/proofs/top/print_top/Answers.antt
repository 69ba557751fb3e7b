use Rattle.std.proofs.Common.{List, All, take, sym, ◌∙◌, subst}
use Rattle.std.proofs.lemmas.List.Elements.{All-take}
use Rattle.std.proofs.lemmas.List.Sorted.{All-permutation}
use Rattle.allocinfo.specs.declared.rows.Row.{Row}
use Rattle.allocinfo.specs.Text.{IsRow}
use Rattle.allocinfo.specs.Rank.{ranked}
use Rattle.allocinfo.proofs.top.print_top.Goals as goal

pub print_rows-requires : goal.print_rows-requires
print_rows-requires c =
    let fits = IsRow c.args.sections.now in
    let rows = c.args.rows.now in
    subst (λ (shown : List Row). All fits (take c.min-count.result shown))
    (sym (c.deref.ensures.value ∙ c.in_ok-ranking.ensures.value))
    (All-take fits c.min-count.result (ranked rows) (All-permutation fits rows (ranked rows) c.in_ok-ranking.ensures.ranking.same_rows c.requires))
