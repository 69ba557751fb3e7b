use Rattle.std.proofs.Common.{ℕ, ◌≡◌, ◌+◌, ◌-◌, ◌*◌, ◌%◌, ◌/◌, ◌^◌, ◌≤◌, length, get_or, take, drop, sym, ap, ◌∙◌, subst, arith}
use Rattle.std.proofs.lemmas.List.{length-take-le, length-drop, get_or-take, get_or-drop}
use Rattle.buddy.specs.Bits.{IsFlipped}
use Rattle.buddy.proofs.Orders.{of_words}
use Rattle.buddy.proofs.Runs.{at_words, flips_in_word, flips_words}
use borrow.Rule.Slice.PartMut.{put_mid}
use Rattle.buddy.proofs.bits.flip.Goals as goal

pub slice_bounds-invert-end : goal.slice_bounds-invert-end
slice_bounds-invert-end c =
    let f = of_words c.args.order (omega arith) c.requires.small in
    let a = at_words c.args.order c.args.start (omega arith) c.requires.small c.requires.aligned in
    let h : c.args.start / 64 + 1 * 2 ^ (c.args.order - 6) % 18446744073709551616 ≤ length c.args.words.now = omega (arith, f.count, f.shift, a.start, c.requires.within) in
    h

pub returns-then-order-lt6 : goal.returns-then-order-lt6
returns-then-order-lt6 c = flips_in_word c.args.words.now c.args.start c.args.order c.ones.result c.if-order-lt6.true c.requires.aligned c.requires.within c.ones.ensures

pub returns-else-order-lt6 : goal.returns-else-order-lt6
returns-else-order-lt6 c =
    let f = of_words c.args.order (omega arith) c.requires.small in
    let a = at_words c.args.order c.args.start (omega arith) c.requires.small c.requires.aligned in
    let count : c.args.start / 64 + 1 * 2 ^ (c.args.order - 6) % 18446744073709551616 - c.args.start / 64 ≡ 2 ^ (c.args.order - 6) = omega (arith, f.shift) in
    let P : ℕ → Type 0 = λ n. IsFlipped c.args.words.now (put_mid (c.args.start / 64) n c.args.words.now c.invert.new.words) c.args.start (2 ^ c.args.order) in
    let Q : ℕ → Type 0 = λ n. IsFlipped c.args.words.now (put_mid (c.args.start / 64) (2 ^ (c.args.order - 6)) c.args.words.now c.invert.new.words) c.args.start n in
    let len : length (take (c.args.start / 64 + 1 * 2 ^ (c.args.order - 6) % 18446744073709551616 - c.args.start / 64) (drop (c.args.start / 64) c.args.words.now)) ≡ 2 ^ (c.args.order - 6) =
    length-take-le _ (drop (c.args.start / 64) c.args.words.now) (omega (arith, length-drop (c.args.start / 64) c.args.words.now, f.count, f.shift, a.start, c.requires.within)) ∙ count in
    subst P (sym count)
    (subst Q (sym f.count)
    (flips_words c.args.words.now c.invert.new.words c.args.start (c.args.start / 64) (2 ^ (c.args.order - 6)) a.start (omega (arith, f.count, a.start, c.requires.within))
    (c.invert.ensures.same_length ∙ len)
    (λ j below.
    let was : get_or (take (c.args.start / 64 + 1 * 2 ^ (c.args.order - 6) % 18446744073709551616 - c.args.start / 64) (drop (c.args.start / 64) c.args.words.now)) j 0 ≡ get_or c.args.words.now (c.args.start / 64 + j) 0 =
    get_or-take _ (drop (c.args.start / 64) c.args.words.now) j 0 (omega (arith, count)) ∙ get_or-drop (c.args.start / 64) c.args.words.now j 0 in
    ap (λ w. get_or c.invert.new.words j 0 + w) (sym was) ∙ c.invert.ensures.turned j (omega (arith, len)))))
