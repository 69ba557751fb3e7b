use Rattle.std.proofs.Common.{◌≡◌, ◌+◌, length, drop, arith}
use Rattle.text_form.specs.Cut.{words_left}
use Rattle.text_form.specs.Words.{words_of}
use Rattle.text_form.proofs.Parts.{few_words, word_behind, left_behind}
use Rattle.text_form.proofs.cut.cut_words.Goals as goal

pub overflow_add-count-6 : goal.overflow_add-count-6
overflow_add-count-6 c =
    let line = c.args.line.now in
    let t0 : length (words_of line) ≡ 1 + length (words_left c.in_ok-first.first.more c.in_ok-first.first.rest.now) = c.in_ok-first.ensures.count in
    omega (
      arith,
      few_words line,
      c.well_formed.0.1,
      t0,
      c.in_ok-second.ensures.count,
      c.in_ok-third.ensures.count,
      c.in_ok-fourth.ensures.count,
      c.in_ok-fifth.ensures.count,
      c.in_ok-sixth.ensures.count,
      c.in_ok-left.ensures.1,
      c.one_if.ensures,
      c.one_if-2.ensures,
      c.one_if-3.ensures,
      c.one_if-4.ensures,
      c.one_if-5.ensures,
    )

pub invariant_of-result : goal.invariant_of-result
invariant_of-result c =
    let line = c.args.line.now in
    let words = words_of line in
    let t0 : length (words_of line) ≡ 1 + length (words_left c.in_ok-first.first.more c.in_ok-first.first.rest.now) = c.in_ok-first.ensures.count in
    let l1 : words_left c.in_ok-first.first.more c.in_ok-first.first.rest.now ≡ drop 1 words = c.in_ok-first.ensures.left in
    let l2 = left_behind words _ _ 1 l1 c.in_ok-second.ensures.left in
    let l3 = left_behind words _ _ 2 l2 c.in_ok-third.ensures.left in
    let l4 = left_behind words _ _ 3 l3 c.in_ok-fourth.ensures.left in
    let l5 = left_behind words _ _ 4 l4 c.in_ok-fifth.ensures.left in
    record {
      count = omega (
        arith,
        t0,
        c.in_ok-second.ensures.count,
        c.in_ok-third.ensures.count,
        c.in_ok-fourth.ensures.count,
        c.in_ok-fifth.ensures.count,
        c.in_ok-sixth.ensures.count,
        c.in_ok-left.ensures.1,
        c.one_if.ensures,
        c.one_if-2.ensures,
        c.one_if-3.ensures,
        c.one_if-4.ensures,
        c.one_if-5.ensures,
      );
      first = c.in_ok-first.ensures.word;
      second = word_behind words _ _ 1 l1 c.in_ok-second.ensures.word;
      third = word_behind words _ _ 2 l2 c.in_ok-third.ensures.word;
      fourth = word_behind words _ _ 3 l3 c.in_ok-fourth.ensures.word;
      fifth = word_behind words _ _ 4 l4 c.in_ok-fifth.ensures.word;
      sixth = word_behind words _ _ 5 l5 c.in_ok-sixth.ensures.word;
    }
