use Rattle.core_steps.proofs.Others.{idle_hand, idle_manager}
use Rattle.core_steps.proofs.Quiet.{at_rest, quiet_exact, quiet_hands, quiet_totals, reads_nothing}
use Rattle.core_steps.proofs.laws.an_idle_core_is_quiet.Goals as goal

pub returns-clause-hands : goal.returns-clause-hands
returns-clause-hands c s core idle cpu below = idle_hand s cpu core idle below

pub returns-clause-totals : goal.returns-clause-totals
returns-clause-totals c s kind t core idle = quiet_totals s kind t core (λ cpu below. idle_hand s cpu core idle below)

pub returns-clause-exact : goal.returns-clause-exact
returns-clause-exact c s kind t core idle = quiet_exact s kind t core (λ cpu below. idle_hand s cpu core idle below)

pub returns-clause-quiet : goal.returns-clause-quiet
returns-clause-quiet c s core idle = record { no_hand = quiet_hands s core (λ cpu below. idle_hand s cpu core idle below); not_reading = reads_nothing s core (idle_manager s core idle) }

pub returns-clause-at_rest : goal.returns-clause-at_rest
returns-clause-at_rest c s core off = at_rest s core off
