use Rattle.std.proofs.Common.{◌≡◌, length}
use Rattle.text_form.specs.Words.{has_empty_word}
use Rattle.text_form.proofs.words.has_empty_word.Given as goal

-- no word before what is left is empty
abbrev pub invariant-loop-after : goal.invariant-loop-after
invariant-loop-after l = has_empty_word l.rest ≡ has_empty_word l.fn.line

abbrev pub decreases-loop-after : goal.decreases-loop-after
decreases-loop-after l = length l.rest
