use Rattle.tag_model.proofs.Accounted.{begins_off, releases_off, scans_off}
use Rattle.tag_model.proofs.sweep_laws.a_record_with_a_stop_is_off_the_list.Goals as goal

pub returns-clause-begins : goal.returns-clause-begins
returns-clause-begins c old new id none = begins_off old new id none

pub returns-clause-scans : goal.returns-clause-scans
returns-clause-scans c k left r cpu old new id row was = scans_off k left r cpu old new id row was

pub returns-clause-releases : goal.returns-clause-releases
returns-clause-releases c left gone old new id row was = releases_off left gone old new id row was
