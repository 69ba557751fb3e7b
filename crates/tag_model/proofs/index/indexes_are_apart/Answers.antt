use Rattle.tag_model.proofs.Slots.{slots_apart, slots_below}
use Rattle.tag_model.proofs.index.indexes_are_apart.Goals as goal

pub returns-clause-apart : goal.returns-clause-apart
returns-clause-apart c = slots_apart

pub returns-clause-below_count : goal.returns-clause-below_count
returns-clause-below_count c = slots_below
