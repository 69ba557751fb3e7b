use Rattle.std.proofs.Common.{sym, ◌∙◌}
use Rattle.tag_rule.proofs.Peeked.{tag_shown, place_shown, peeks_shown, fits_shown}
use Rattle.tag_rule.proofs.scanning.scan.Goals as goal

pub word_at-at-requires-clause-tag : goal.word_at-at-requires-clause-tag
word_at-at-requires-clause-tag c = tag_shown _ _ _ c.deref-words.ensures c.list.invariant (sym c.reader.ensures ∙ c.in-Some.is)

pub peek-word-requires-clause-place : goal.peek-word-requires-clause-place
peek-word-requires-clause-place c = place_shown _ _ _ c.deref-words.ensures c.list.invariant (sym c.reader.ensures ∙ c.in-Some.is) _ c.word_at-at.ensures

pub peek-word-requires-clause-step : goal.peek-word-requires-clause-step
peek-word-requires-clause-step c = peeks_shown _ _ _ c.deref-words.ensures c.list.invariant (sym c.reader.ensures ∙ c.in-Some.is) _ c.word_at-at.ensures

pub scan-stop-requires-clause-fits : goal.scan-stop-requires-clause-fits
scan-stop-requires-clause-fits c = fits_shown _ _ _ c.deref-words.ensures c.list.invariant (sym c.reader.ensures ∙ c.in-Some.is)
