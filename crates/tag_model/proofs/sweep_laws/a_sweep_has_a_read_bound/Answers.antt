use Rattle.tag_model.proofs.SweepSteps.{marks_at_most, releases_fall, scans_fall, sweeps_at_most, sweeps_list_all, sweeps_read}
use Rattle.tag_model.proofs.sweep_laws.a_sweep_has_a_read_bound.Goals as goal

pub returns-clause-reads_fall : goal.returns-clause-reads_fall
returns-clause-reads_fall c k left r cpu old new rises fits row = (scans_fall k left r cpu old new rises fits row).0

pub returns-clause-scans_fall : goal.returns-clause-scans_fall
returns-clause-scans_fall c k left r cpu old new rises fits row = (scans_fall k left r cpu old new rises fits row).1

pub returns-clause-releases_fall : goal.returns-clause-releases_fall
returns-clause-releases_fall c k left id old new row = releases_fall k left id old new row

pub returns-clause-of_all : goal.returns-clause-of_all
returns-clause-of_all c k old new rises row = sweeps_at_most k old new rises row

pub returns-clause-of_one : goal.returns-clause-of_one
returns-clause-of_one c k old new row rises = marks_at_most k old new rises row

pub returns-clause-lists_all : goal.returns-clause-lists_all
returns-clause-lists_all c old new row = sweeps_list_all old new row

pub returns-clause-some_read : goal.returns-clause-some_read
returns-clause-some_read c old new row dead = sweeps_read old new row dead
