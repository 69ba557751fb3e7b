use Rattle.core_steps.proofs.SplitRun.{first_moves, later_moves, split_moves, split_bytes, split_calls}
use Rattle.core_steps.proofs.laws.a_split_adds_calls_and_no_bytes.Goals as goal

pub returns-clause-moves : goal.returns-clause-moves
returns-clause-moves c s cpu key parts first size tag ops core begins held = split_moves s cpu key parts first size tag ops core begins held

pub returns-clause-bytes : goal.returns-clause-bytes
returns-clause-bytes c s cpu key parts first t ops core begins = split_bytes s cpu key parts first t ops core begins

pub returns-clause-calls : goal.returns-clause-calls
returns-clause-calls c s cpu key parts first size t tag ops core begins held = split_calls s cpu key parts first size t tag ops core begins held

pub returns-clause-first_step : goal.returns-clause-first_step
returns-clause-first_step c s cpu key parts first ops waits = first_moves s cpu key parts first ops waits

pub returns-clause-later_steps : goal.returns-clause-later_steps
returns-clause-later_steps c s cpu key parts first done hand ops core waits held = later_moves s cpu key parts first done hand ops core waits held
