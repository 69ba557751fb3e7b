use Rattle.std.proofs.Common.{ℕ, ◌≡◌, ◌+◌, ◌*◌, ◌<◌, length, subst, ap, arith}
use Rattle.std.specs.Int.{bit_at, w64, trailing_zeros}
use Rattle.std.proofs.lemmas.Nat.Bits.{bit_at-trailing_zeros, bit_at-zero}
use Rattle.buddy.specs.Bits.{IsRun, IsLeastRun}
use Rattle.buddy.proofs.Runs.{word_more, word_found, word_none}
use Rattle.buddy.proofs.bits.least_in_a_word.Goals as goal

pub returns-then-starts-ne0 : goal.returns-then-starts-ne0
returns-then-starts-ne0 c =
    let z = bit_at-trailing_zeros w64 c.starts_in-starts.result (omega (arith, c.if-starts-ne0.true)) c.starts_in-starts.type_inv in
    let place : 64 * c.loop-index.index + trailing_zeros w64 c.starts_in-starts.result ≡ c.loop-index.index * 64 + trailing_zeros w64 c.starts_in-starts.result = omega arith in
    subst (λ s. IsLeastRun c.args.words.now c.args.order s) place
    (word_found c.args.words.now c.args.order c.loop-index.index (trailing_zeros w64 c.starts_in-starts.result) c.requires.small z.0 c.loop-index.invariant
    ((c.starts_in-starts.ensures (trailing_zeros w64 c.starts_in-starts.result) z.0).0 z.1)
    (λ s below is. let one = (c.starts_in-starts.ensures s (let l = z.0 in omega arith)).1 is in let none = z.2 s below in absurd (omega arith)))

pub loop-index-preserved : goal.loop-index-preserved
loop-index-preserved c =
    word_more c.args.words.now c.args.order c.loop-index.index c.requires.small c.loop-index.invariant
    (λ t below is.
    let one = (c.starts_in-starts.ensures t below).1 is in
    let none = ap (λ w. bit_at w t) c.if-starts-ne0.false in
    let zero_bit = bit_at-zero t in
    absurd (omega (arith, one, none, zero_bit)))

pub returns : goal.returns
returns c =
    let all : c.loop-index.index ≡ length c.args.words.now = omega arith in
    word_none c.args.words.now c.args.order c.requires.small (subst (λ n. (r : ℕ) → r < 64 * n → ¬ IsRun c.args.words.now c.args.order r) all c.loop-index.invariant)
