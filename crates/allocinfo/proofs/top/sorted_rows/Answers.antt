use Rattle.std.proofs.Common.{◌∙◌, ap, filter, rules}
use Rattle.std.specs.List.Sorted.{ties}
use Rattle.std.proofs.lemmas.List.Sorted.{answers_always}
use Rattle.allocinfo.specs.Rank.{holds_more}
use Rattle.allocinfo.proofs.RankLemmas.{ranked_from_sorted, holds_more-order}
use Rattle.allocinfo.proofs.top.sorted_rows.Goals as goal

pub returns : goal.returns
returns c =
    ranked_from_sorted c.args.rows.now c.sort_by.new.self.items
    (c.in_ok-sort_by.ensures.sorted holds_more holds_more-order (answers_always _ _ _ (λ f a r g h. search rules)))
    (λ x.
    c.sort_by.ensures.stable holds_more holds_more-order (answers_always _ _ _ (λ f a r g h. search rules)) x
    ∙ ap (filter (ties holds_more x)) c.in_ok-ranking.ensures.items)
