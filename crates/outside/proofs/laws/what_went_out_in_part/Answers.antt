use Rattle.outside.proofs.laws.what_went_out_in_part.Goals as goal

pub returns : goal.returns
returns c = λ sent sent_after text prefix. (prefix.count, prefix.sent)
