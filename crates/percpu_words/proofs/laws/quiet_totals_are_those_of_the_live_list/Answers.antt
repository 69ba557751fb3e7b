use Rattle.percpu_words.proofs.Sums.{quiet_totals}
use Rattle.percpu_words.proofs.laws.quiet_totals_are_those_of_the_live_list.Goals as goal

pub returns : goal.returns
returns c = quiet_totals
