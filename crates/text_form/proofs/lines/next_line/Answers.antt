use Rattle.std.proofs.Common.{◌+◌, ◌∷◌, ◌++◌, length, get_or, take, drop, sym, ap, ◌∙◌}
use Rattle.std.proofs.lemmas.Bool.{eqb-true}
use Rattle.std.proofs.lemmas.List.Quantifiers.{position-Some}
use Rattle.text_form.specs.Lines.{is_newline, lines_of, tail_of}
use Rattle.text_form.proofs.Parts.{lines_of_none, lines_of_some, behind, round}
use Rattle.text_form.proofs.lines.next_line.Goals as goal

pub returns-in-None : goal.returns-in-None
returns-in-None c =
    let none = lines_of_none c.args.text.now (sym c.byte_place.ensures ∙ c.in-None.is) in
    record { lines = none.0; tail = none.1; bytes = ap length none.0 }

pub returns-in-Some : goal.returns-in-Some
returns-in-Some c =
    let text = c.args.text.now in
    let place = c.in-Some.place in
    let at = sym c.byte_place.ensures ∙ c.in-Some.is in
    let parts = lines_of_some text place at in
    let rest = behind text c.split_at.result.1.now place c.split_at.ensures.back in
    record {
      lines = parts.0 ∙ ap (λ x. x ∷ lines_of (drop (place + 1) text)) (sym c.split_at.ensures.front) ∙ ap (λ x. c.split_at.result.0.now ∷ lines_of x) (sym rest);
      tail = parts.1 ∙ ap tail_of (sym rest);
      bytes =
          let found = position-Some is_newline text place 0 at in
          round text place found.0
          ∙ ap (λ x. take place text ++ x ∷ drop (place + 1) text) (eqb-true (get_or text place 0) 10 found.1)
          ∙ ap (λ x. x ++ 10 ∷ drop (place + 1) text) (sym c.split_at.ensures.front)
          ∙ ap (λ x. c.split_at.result.0.now ++ 10 ∷ x) (sym rest);
    }
