use Rattle.lanes.proofs.NumberLemmas.{of_done, of_ready, to_done, to_ready}
use Rattle.lanes.proofs.laws.lanes_go_by_number.Goals as goal

pub returns-clause-ready : goal.returns-clause-ready
returns-clause-ready c lanes workers cpus = (of_ready lanes workers cpus, to_ready lanes workers cpus)

pub returns-clause-done : goal.returns-clause-done
returns-clause-done c lanes workers after cpus cpus_after = (of_done lanes workers after cpus cpus_after, to_done lanes workers after cpus cpus_after)
