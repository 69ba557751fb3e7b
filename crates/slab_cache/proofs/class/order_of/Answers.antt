use Rattle.std.proofs.Common.{ℕ, ◌<◌, ◌≤◌, sym, subst, below_more, arith}
use Rattle.slab_cache.proofs.ClassLemmas.{order_found, order_last, page_shift}
use Rattle.slab_cache.proofs.class.order_of.Goals as goal

pub returns-then-size-order-clause-value : goal.returns-then-size-order-clause-value
returns-then-size-order-clause-value c =
    let bytes = page_shift c.loop-order.order (omega arith) in
    sym (order_found c.args.size c.loop-order.order (omega arith) (subst (λ (n : ℕ). c.args.size ≤ n) bytes c.if-size-order.true) c.loop-order.invariant)

pub loop-order-preserved : goal.loop-order-preserved
loop-order-preserved c =
    let bytes = page_shift c.loop-order.order (omega arith) in
    below_more _ _ c.loop-order.invariant (subst (λ (n : ℕ). n < c.args.size) bytes c.if-size-order.false)

pub returns-clause-value : goal.returns-clause-value
returns-clause-value c = sym (order_last c.args.size (λ k below. c.loop-order.invariant k (omega arith)))
