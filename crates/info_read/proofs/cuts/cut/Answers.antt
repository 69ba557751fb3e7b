use Rattle.std.proofs.Common.{◌+◌, Some, sym, ap, ◌∙◌, take}
use Rattle.std.proofs.lemmas.List.{take_rest}
use Rattle.info_read.proofs.CutLemmas.{cut_at, cut_none}
use Rattle.info_read.proofs.cuts.cut.Goals as goal

pub returns-in_err-place : goal.returns-in_err-place
returns-in_err-place c =
    rw c.from_residual.ensures (cut_none c.args.mark c.args.text.now (sym c.byte_place.ensures ∙ c.in_err-place.was))

pub returns : goal.returns
returns c =
    let text = c.args.text.now in
    let place = c.in_ok-place.place in
    cut_at c.args.mark text place (sym c.byte_place.ensures ∙ c.in_ok-place.was)
    ∙ ap (λ back. Some (take place text, back)) (sym (take_rest text (place + 1)))
