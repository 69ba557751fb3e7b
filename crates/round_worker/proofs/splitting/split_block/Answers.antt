use Rattle.std.proofs.Common.{◌≡◌, All, List, ◌++◌, length, ap, subst, sym, ◌∙◌, arith}
use Rattle.std.specs.List.{range_with_len}
use Rattle.std.proofs.lemmas.List.FromFn.{length-map-range_with_len}
use Rattle.page_ext.specs.Shown.{BlockShown}
use Rattle.split_swap.specs.Parts.{part_shown, parts_in, parts_shown}
use Rattle.round_worker.specs.Kept.{IsKept}
use Rattle.round_worker.specs.Parting.{blocks}
use Rattle.round_worker.proofs.Splits.{parts_kept}
use Rattle.round_worker.proofs.splitting.split_block.Goals as goal

pub put_blocks-requires : goal.put_blocks-requires
put_blocks-requires c =
    let order = c.args.to.order in
    let block = c.args.block in
    let items : c.split_to.new.out.items ≡ parts_shown order block = c.in_default.ensures.parts ∙ ap (λ (xs : List BlockShown). xs ++ parts_shown order block) c.new-parts.ensures.items in
    record { few = omega (arith, ap (λ (xs : List BlockShown). length xs) items, length-map-range_with_len (λ place. part_shown order place block) 0 (parts_in order block.order), c.requires.few) }

pub returns-clause-kept : goal.returns-clause-kept
returns-clause-kept c = λ board same own.
    let order = c.args.to.order in
    let block = c.args.block in
    let items : c.split_to.new.out.items ≡ parts_shown order block = c.in_default.ensures.parts ∙ ap (λ (xs : List BlockShown). xs ++ parts_shown order block) c.new-parts.ensures.items in
    let all = parts_kept order block board (range_with_len 0 (parts_in order block.order)) (c.requires.table ∙ same) c.split_to.ensures.fit in
    c.put_blocks.ensures.kept board own (subst (λ (xs : List BlockShown). All (IsKept board) (blocks xs)) (sym items) all)
