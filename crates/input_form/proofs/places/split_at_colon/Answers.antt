use Rattle.std.proofs.Common.{eqb, sym, ◌∙◌}
use Rattle.input_form.proofs.Colons.{found_before, found_after, none_before, none_after}
use Rattle.input_form.proofs.places.split_at_colon.Goals as goal

pub returns-in-Some-clause-before : goal.returns-in-Some-clause-before
returns-in-Some-clause-before c = found_before (λ b. eqb b 58) c.args.word.now _ c.in-Some.place (sym c.byte_place.ensures ∙ c.in-Some.is) c.split_at.ensures.front

pub returns-in-Some-clause-after : goal.returns-in-Some-clause-after
returns-in-Some-clause-after c = found_after (λ b. eqb b 58) c.args.word.now c.split_at.result.1.now c.in-Some.place (sym c.byte_place.ensures ∙ c.in-Some.is) c.split_at.ensures.back

pub returns-in-None-clause-before : goal.returns-in-None-clause-before
returns-in-None-clause-before c = none_before (λ b. eqb b 58) c.args.word.now (sym c.byte_place.ensures ∙ c.in-None.is)

pub returns-in-None-clause-after : goal.returns-in-None-clause-after
returns-in-None-clause-after c = none_after (λ b. eqb b 58) c.args.word.now (sym c.byte_place.ensures ∙ c.in-None.is)
