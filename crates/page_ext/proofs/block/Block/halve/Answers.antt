use Rattle.std.proofs.Common.{ℕ, ◌-◌, ◌<◌, sym, ap, subst, arith}
use Rattle.buddy.proofs.Orders.{shifted}
use Rattle.page_ext.proofs.Cells.{low_is_block, high_is_block}
use Rattle.page_ext.proofs.block.Block.halve.Goals as goal

some_order : (c : goal.After-divide-low) → 0 < c.self.inside.order
some_order c = subst (λ (n : ℕ). 0 < n) (sym (ap (λ b. b.order) c.self.view_is)) c.requires.some

pub invariant_of-first : goal.invariant_of-first
invariant_of-first c = low_is_block c.self.inside.frame c.self.inside.order (some_order c) c.self.invariant

pub invariant_of-second : goal.invariant_of-second
invariant_of-second c =
    let small = c.self.invariant.small in
    high_is_block c.self.inside.frame c.self.inside.order _ (some_order c) c.self.invariant (shifted (c.self.inside.order - 1) (omega arith))
