use Rattle.std.proofs.Common.{◌≡◌, ◌-◌}
use Rattle.text_form.specs.Words.{word_at}
use Rattle.text_form.proofs.words.word_at.Given as goal

-- the word is so many places behind the front of what is left
abbrev pub invariant-loop : goal.invariant-loop
invariant-loop l = word_at l.rest (l.place - l.counter) ≡ word_at l.fn.line l.place
