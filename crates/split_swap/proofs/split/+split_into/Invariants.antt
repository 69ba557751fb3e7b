use Rattle.split_swap.proofs.split.+split_into.Given as goal

abbrev pub decreases-split_into : goal.decreases-split_into
decreases-split_into l = l.block.order
