use Rattle.tag_model.proofs.Accounted.{enters_account, leaves_account, loads_account, marks_account, releases_account, scans_account, sweeps_account}
use Rattle.tag_model.proofs.sweep_laws.each_dead_record_is_listed_or_has_a_stop.Goals as goal

pub returns-clause-of_all : goal.returns-clause-of_all
returns-clause-of_all c old new id row = sweeps_account old new id row

pub returns-clause-of_one : goal.returns-clause-of_one
returns-clause-of_one c old new row = marks_account old new row

pub returns-clause-scans : goal.returns-clause-scans
returns-clause-scans c k left r cpu old new id row was = scans_account k left r cpu old new id row was

pub returns-clause-releases : goal.returns-clause-releases
returns-clause-releases c left gone old new id row was = releases_account left gone old new id row was

pub returns-clause-loads : goal.returns-clause-loads
returns-clause-loads c k section start length next old new id row was = loads_account k section start length next old new id row was

pub returns-clause-enters : goal.returns-clause-enters
returns-clause-enters c old new id row was = enters_account old new id row was

pub returns-clause-leaves : goal.returns-clause-leaves
returns-clause-leaves c old new id row was = leaves_account old new id row was
