use Rattle.std.proofs.Common.{ℕ, ◌<◌, ◌≤◌, All, sym, subst, arith}
use Rattle.std.proofs.lemmas.List.FromFn.{length-map-range_with_len}
use Rattle.page_ext.specs.Shown.{BlockShown, Fits, IsWhole}
use Rattle.split_swap.specs.Parts.{parts_in, part_shown, parts_shown}
use Rattle.split_swap.proofs.Halving.{part_is, part_fits, part_is_whole}
use Rattle.split_swap.proofs.split.split_to.Goals as goal

all_fit : (order : ℕ) (block : BlockShown) → order ≤ block.order → Fits block → IsWhole block → All (λ part. Fits part × IsWhole part) (parts_shown order block)
all_fit order block small fits all k d inside =
    let below : k < parts_in order block.order = omega (arith, length-map-range_with_len (λ place. part_shown order place block) 0 (parts_in order block.order)) in
    subst (λ part. Fits part × IsWhole part) (sym (part_is order k block d below)) (part_fits order k block fits small below, part_is_whole order k block all small)

pub returns-in-Err-clause-fit : goal.returns-in-Err-clause-fit
returns-in-Err-clause-fit c = all_fit c.args.order c.args.block (omega (arith, c.requires.order)) c.requires.fits c.requires.whole

pub returns-clause-fit : goal.returns-clause-fit
returns-clause-fit c = all_fit c.args.order c.args.block (omega (arith, c.requires.order)) c.requires.fits c.requires.whole
