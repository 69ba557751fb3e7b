use Rattle.std.proofs.Common.{◌+◌, ◌∷◌, drop, sym, ap, ◌∙◌}
use Rattle.text_form.specs.Words.{words_of}
use Rattle.text_form.proofs.Parts.{words_of_none, words_of_some, behind}
use Rattle.text_form.proofs.words.next_word.Goals as goal

pub returns-in-None-clause-words : goal.returns-in-None-clause-words
returns-in-None-clause-words c = words_of_none c.args.line.now (sym c.space_place.ensures ∙ c.in-None.is)

pub returns-in-Some-clause-words : goal.returns-in-Some-clause-words
returns-in-Some-clause-words c =
    let line = c.args.line.now in
    let place = c.in-Some.place in
    let parts = words_of_some line place (sym c.space_place.ensures ∙ c.in-Some.is) in
    let rest = behind line c.split_at.result.1.now place c.split_at.ensures.back in
    parts ∙ ap (λ x. x ∷ words_of (drop (place + 1) line)) (sym c.split_at.ensures.front) ∙ ap (λ x. c.split_at.result.0.now ∷ words_of x) (sym rest)
