use Rattle.info_read.proofs.OwnLemmas.{read_formed}
use Rattle.info_read.proofs.reading.info_rows.Goals as goal

pub owned_rows-requires : goal.owned_rows-requires
owned_rows-requires c = rw c.deref.ensures.value (read_formed c.args.bytes.now c.in_ok-rows.rows.items c.in_ok-rows.ensures)
