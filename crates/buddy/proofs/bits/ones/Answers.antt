use Rattle.std.proofs.Common.{◌≡◌, ◌-◌, ◌*◌, ◌%◌, ◌^◌, ◌<◌, ◌≤◌, refl, lit<, lit≤}
use Rattle.buddy.proofs.Orders.{below_six}
use Rattle.buddy.proofs.bits.ones.Goals as goal

pub overflow_shl-result-2 : goal.overflow_shl-result-2
overflow_shl-result-2 c = below_six (λ o. 1 * 2 ^ o % 4294967296 < 64) (lit< tt) (lit< tt) (lit< tt) (lit< tt) (lit< tt) (lit< tt) c.args.order c.requires

pub overflow_sub-result : goal.overflow_sub-result
overflow_sub-result c = below_six (λ o. 1 ≤ 1 * 2 ^ (1 * 2 ^ o % 4294967296) % 18446744073709551616) (lit≤ tt) (lit≤ tt) (lit≤ tt) (lit≤ tt) (lit≤ tt) (lit≤ tt) c.args.order c.requires

pub returns : goal.returns
returns c = below_six (λ o. 1 * 2 ^ (1 * 2 ^ o % 4294967296) % 18446744073709551616 - 1 ≡ 2 ^ 2 ^ o - 1) refl refl refl refl refl refl c.args.order c.requires
