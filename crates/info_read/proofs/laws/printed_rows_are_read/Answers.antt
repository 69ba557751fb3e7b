use Rattle.allocinfo.specs.Text.{rows_text}
use Rattle.info_read.specs.ReadBack.{info_rows}
use Rattle.info_read.proofs.BackLemmas.{spelled}
use Rattle.info_read.proofs.TextLemmas.{spelled_reads}
use Rattle.info_read.proofs.laws.printed_rows_are_read.Goals as goal

pub returns : goal.returns
returns c sections rows are formed = spelled_reads (rows_text sections rows) (info_rows sections rows) (spelled sections rows are formed)
