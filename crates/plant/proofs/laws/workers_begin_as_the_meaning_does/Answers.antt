use Rattle.std.specs.List.{range_with_len}
use Rattle.plant.proofs.WorkerLemmas.{seats_are}
use Rattle.plant.proofs.laws.workers_begin_as_the_meaning_does.Goals as goal

pub returns : goal.returns
returns c board trace = seats_are board trace.frames trace.vectors (range_with_len 0 trace.cpus)
