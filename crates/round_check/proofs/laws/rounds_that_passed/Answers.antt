use Rattle.round_check.proofs.Pairs.{round_of, keys_apart, freed_bound, unloads_apart}
use Rattle.round_check.proofs.laws.rounds_that_passed.Goals as goal

pub returns-clause-keys : goal.returns-clause-keys
returns-clause-keys c = λ trace ops before formed passed round one two at_one at_two first second key named named'.
    keys_apart ops before (round_of trace ops before formed passed round) one two at_one at_two first second key named named'

pub returns-clause-freed : goal.returns-clause-freed
returns-clause-freed c = λ trace ops before formed passed round on here line key is.
    freed_bound ops before (round_of trace ops before formed passed round) on here line key is

pub returns-clause-unloaded : goal.returns-clause-unloaded
returns-clause-unloaded c = λ trace ops before formed passed round one two at_one at_two first second section is.
    unloads_apart ops before (round_of trace ops before formed passed round) one two at_one at_two first second section is
