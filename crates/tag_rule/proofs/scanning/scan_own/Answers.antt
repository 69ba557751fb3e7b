use Rattle.std.proofs.Common.{sym, ◌∙◌}
use Rattle.tag_rule.proofs.OwnRead.{own_shown}
use Rattle.tag_rule.proofs.Peeked.{tag_shown, place_shown, fits_shown}
use Rattle.tag_rule.proofs.scanning.scan_own.Goals as goal

pub word_at-at-requires-clause-tag : goal.word_at-at-requires-clause-tag
word_at-at-requires-clause-tag c = tag_shown _ _ _ c.deref-words.ensures c.list.invariant (sym c.reader.ensures ∙ c.in-Some.is)

pub look_together-word-requires-clause-place : goal.look_together-word-requires-clause-place
look_together-word-requires-clause-place c = place_shown _ _ _ c.deref-words.ensures c.list.invariant (sym c.reader.ensures ∙ c.in-Some.is) _ c.word_at-at.ensures

pub look_together-word-requires-clause-step : goal.look_together-word-requires-clause-step
look_together-word-requires-clause-step c =
    own_shown _ _ _ _ _ _ c.deref-words.ensures c.list.invariant c.cpu.invariant c.list.view_is c.cpu.view_is c.requires.next (sym c.reader.ensures ∙ c.in-Some.is) _ c.word_at-at.ensures

pub scan-stop-requires-clause-fits : goal.scan-stop-requires-clause-fits
scan-stop-requires-clause-fits c = fits_shown _ _ _ c.deref-words.ensures c.list.invariant (sym c.reader.ensures ∙ c.in-Some.is)
