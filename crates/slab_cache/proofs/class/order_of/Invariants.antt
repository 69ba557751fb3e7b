use Rattle.std.proofs.Common.{ℕ, ◌<◌}
use Rattle.page_ext.specs.Blocks.{page_bytes}
use Rattle.slab_cache.proofs.class.order_of.Given as goal

abbrev pub invariant-loop-order : goal.invariant-loop-order
invariant-loop-order l = (k : ℕ) → k < l.order → page_bytes k < l.size
