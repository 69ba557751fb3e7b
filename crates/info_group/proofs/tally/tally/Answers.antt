use Rattle.std.proofs.Common.{refl}
use Rattle.info_group.specs.Keys.{key_of}
use Rattle.info_group.proofs.TallyLemmas.{tallies_more}
use Rattle.info_group.proofs.tally.tally.Goals as goal

pub loop-row-preserved : goal.loop-row-preserved
loop-row-preserved c =
    tallies_more (key_of c.args.key) c.args.rows.now c.loop-row.row-index _ _ _ _
    c.loop-row-test.true refl c.loop-row.invariant c.in_ok-add_by_key.ensures
