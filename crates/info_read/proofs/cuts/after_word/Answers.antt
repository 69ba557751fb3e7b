use Rattle.info_read.proofs.CutLemmas.{by_strip}
use Rattle.info_read.proofs.cuts.after_word.Goals as goal

pub returns : goal.returns
returns c = by_strip c.args.word.now c.args.text.now c.strip_prefix.result c.strip_prefix.ensures.cases
