use Rattle.info_read.proofs.FaultLemmas.{finds_rows, finds_fault}
use Rattle.info_read.proofs.reading.read_info.Goals as goal

pub returns-clause-rows : goal.returns-clause-rows
returns-clause-rows c = finds_rows c.args.bytes.now c.info_rows.result c.info_rows.ensures

pub returns-clause-fault : goal.returns-clause-fault
returns-clause-fault c = finds_fault c.args.bytes.now c.info_rows.result c.info_rows.ensures
