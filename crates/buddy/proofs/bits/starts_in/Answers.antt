use Rattle.std.proofs.Common.{ℕ, ◌≡◌, ◌+◌, ◌*◌, ◌%◌, ◌^◌, ◌<◌, ◌↔◌, refl, arith, lit<, subst}
use Rattle.std.specs.Int.{bit_at}
use Rattle.buddy.specs.Bits.{HasOnes}
use Rattle.buddy.proofs.Orders.{below_six}
use Rattle.buddy.proofs.Runs.{fold_step, starts_are}
use Rattle.buddy.proofs.bits.starts_in.Goals as goal

pub overflow_shr-runs : goal.overflow_shr-runs
overflow_shr-runs c = below_six (λ o. 1 * 2 ^ o % 4294967296 < 64) (lit< tt) (lit< tt) (lit< tt) (lit< tt) (lit< tt) (lit< tt) c.loop-level.level (omega arith)

pub loop-level-preserved : goal.loop-level-preserved
loop-level-preserved c =
    fold_step c.args.word c.loop-level.runs (1 * 2 ^ c.loop-level.level % 4294967296) (2 ^ c.loop-level.level) (2 ^ (c.loop-level.level + 1)) c.loop-level.invariant
    (below_six (λ o. 1 * 2 ^ o % 4294967296 ≡ 2 ^ o) refl refl refl refl refl refl c.loop-level.level (omega arith))
    (below_six (λ o. 2 ^ (o + 1) ≡ 2 ^ o + 2 ^ o) refl refl refl refl refl refl c.loop-level.level (omega arith))

pub returns : goal.returns
returns c =
    let all : c.loop-level.level ≡ c.args.order = omega arith in
    let told : (r : ℕ) → (bit_at c.loop-level.runs r ≡ 1) ↔ HasOnes c.args.word r (2 ^ c.args.order) =
    subst (λ (n : ℕ). (r : ℕ) → (bit_at c.loop-level.runs r ≡ 1) ↔ HasOnes c.args.word r (2 ^ n)) all c.loop-level.invariant in
    λ s small. starts_are c.args.word c.loop-level.runs _ c.args.order s c.requires small told refl
