use Rattle.std.specs.List.{range_with_len}
use Rattle.lanes.proofs.NumberLemmas.{ops_of_each}
use Rattle.lanes.proofs.laws.lanes_have_the_ops_of_their_cpus.Goals as goal

pub returns : goal.returns
returns c count ops = ops_of_each ops (range_with_len 0 count)
