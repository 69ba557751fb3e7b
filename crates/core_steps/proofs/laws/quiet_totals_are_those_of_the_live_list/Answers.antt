use Rattle.core_steps.proofs.Quiet.{quiet_totals}
use Rattle.core_steps.proofs.laws.quiet_totals_are_those_of_the_live_list.Goals as goal

pub returns : goal.returns
returns c s kind t core quiet = quiet_totals s kind t core quiet
