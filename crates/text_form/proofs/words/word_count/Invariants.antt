use Rattle.std.proofs.Common.{◌≡◌, ◌+◌, ◌≤◌, length}
use Rattle.text_form.specs.Words.{words_of}
use Rattle.text_form.proofs.words.word_count.Given as goal

-- the words so far and those of what is left are those of the line
abbrev pub invariant-loop-after : goal.invariant-loop-after
invariant-loop-after l = record {
  all : l.count + length (words_of l.rest) ≡ length (words_of l.fn.line) + 1;
  within : l.count + length l.rest ≤ length l.fn.line + 1;
}

abbrev pub decreases-loop-after : goal.decreases-loop-after
decreases-loop-after l = length l.rest
