use Rattle.trace_cover.proofs.Told.{front_last}
use Rattle.trace_cover.proofs.laws.checked_ids_are_few.Goals as goal

pub returns : goal.returns
returns c = λ trace top front. front_last trace top front
