use Rattle.std.proofs.Common.{ℕ, ◌≡◌, ◌+◌, ◌-◌, ◌*◌, ◌%◌, ◌^◌, ◌<◌, ◌≤◌, List, All, length, get_or, take, drop, subst, sym, ◌∙◌, arith}
use Rattle.std.proofs.lemmas.List.{length-take-le, length-drop, get_or-take, get_or-drop}
use Rattle.std.proofs.lemmas.List.Elements.{All-get_or, All-from_get_or}
use Rattle.std.proofs.lemmas.Bool.{both_ways}
use Rattle.buddy.specs.Bits.{IsLeastRun}
use Rattle.buddy.proofs.Orders.{of_words}
use Rattle.buddy.proofs.Runs.{AllSet, WordsBefore, words_more, words_found, words_none, words_from_run}
use Rattle.buddy.proofs.bits.least_of_words.Goals as goal

-- the slice that is looked at, as words by their places
part_at : (words : List ℕ) (first n count j : ℕ) → n ≡ count → first + count ≤ length words → j < count → get_or (take n (drop first words)) j 0 ≡ get_or words (first + j) 0
part_at words first n count j same within below = get_or-take n (drop first words) j 0 (omega arith) ∙ get_or-drop first words j 0

part_length : (words : List ℕ) (first n count : ℕ) → n ≡ count → first + count ≤ length words → length (take n (drop first words)) ≡ count
part_length words first n count same within = length-take-le n (drop first words) (omega (arith, length-drop first words)) ∙ same

set_of : (words : List ℕ) (first n count : ℕ) → n ≡ count → first + count ≤ length words → All (λ word. word ≡ 2 ^ 64 - 1) (take n (drop first words)) → AllSet words first count
set_of words first n count same within all j below =
    sym (part_at words first n count j same within below)
    ∙ All-get_or (λ word. word ≡ 2 ^ 64 - 1) (take n (drop first words)) j 0 (omega (arith, part_length words first n count same within)) all

of_set : (words : List ℕ) (first n count : ℕ) → n ≡ count → first + count ≤ length words → AllSet words first count → All (λ word. word ≡ 2 ^ 64 - 1) (take n (drop first words))
of_set words first n count same within set =
    All-from_get_or (λ word. word ≡ 2 ^ 64 - 1) (take n (drop first words)) 0
    (λ j below. let l = part_length words first n count same within in part_at words first n count j same within (omega arith) ∙ set j (omega arith))

pub overflow_add-first : goal.overflow_add-first
overflow_add-first c =
    let f = of_words c.args.order c.requires.large c.requires.small in
    omega (arith, f.few, f.shift, c.loop-first.invariant.within)

pub returns-then-all_set : goal.returns-then-all_set
returns-then-all_set c =
    let f = of_words c.args.order c.requires.large c.requires.small in
    let place : 64 * c.loop-first.first ≡ c.loop-first.first * 64 = omega arith in
    let within : c.loop-first.first + 2 ^ (c.args.order - 6) ≤ length c.args.words.now = omega (arith, f.shift) in
    let count : c.loop-first.first + 1 * 2 ^ (c.args.order - 6) % 18446744073709551616 - c.loop-first.first ≡ 2 ^ (c.args.order - 6) = omega (arith, f.shift) in
    subst (λ s. IsLeastRun c.args.words.now c.args.order s) place
    (words_found c.args.words.now c.args.order c.loop-first.first c.requires.large c.requires.small c.loop-first.invariant
    (set_of c.args.words.now c.loop-first.first _ (2 ^ (c.args.order - 6)) count within (c.all_set.ensures.0 c.if-all_set.true)))

pub loop-first-preserved : goal.loop-first-preserved
loop-first-preserved c =
    let f = of_words c.args.order c.requires.large c.requires.small in
    let within : c.loop-first.first + 2 ^ (c.args.order - 6) ≤ length c.args.words.now = omega (arith, f.shift) in
    let count : c.loop-first.first + 1 * 2 ^ (c.args.order - 6) % 18446744073709551616 - c.loop-first.first ≡ 2 ^ (c.args.order - 6) = omega (arith, f.shift) in
    subst (λ n. WordsBefore c.args.words.now c.args.order (c.loop-first.first + n)) (sym f.shift)
    (words_more c.args.words.now c.args.order c.loop-first.first c.requires.large c.requires.small c.loop-first.invariant within
    (λ run.
    both_ways c.all_set.result c.if-all_set.false
    (c.all_set.ensures.1 (of_set c.args.words.now c.loop-first.first _ (2 ^ (c.args.order - 6)) count within
    (words_from_run c.args.words.now c.args.order c.loop-first.first c.requires.large c.requires.small (λ j below. omega (arith, c.type_inv.words j)) run)))))

pub returns : goal.returns
returns c =
    let f = of_words c.args.order c.requires.large c.requires.small in
    words_none c.args.words.now c.args.order c.loop-first.first c.requires.large c.requires.small c.loop-first.invariant (omega (arith, f.shift))
