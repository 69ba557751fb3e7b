use Rattle.reclaim.specs.Steps.{no_read, then_read}
use Rattle.reclaim.proofs.tests.race.read_one.Goals as goal

pub returns-then-is_some-clause-reads : goal.returns-then-is_some-clause-reads
returns-then-is_some-clause-reads c = then_read no_read c.read_next.ensures.read

pub returns-else-is_some-clause-reads : goal.returns-else-is_some-clause-reads
returns-else-is_some-clause-reads c = no_read
