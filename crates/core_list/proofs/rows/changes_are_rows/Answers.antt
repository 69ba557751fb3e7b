use Rattle.std.proofs.Common.{refl}
use Rattle.core_list.specs.ListState.{run_of}
use Rattle.core_list.proofs.Changes.{row-enters, row-leaves, row-loads, row-marks_dead, row-scans, row-releases}
use Rattle.core_list.proofs.rows.changes_are_rows.Goals as goal

pub returns-clause-enters : goal.returns-clause-enters
returns-clause-enters c l n id e away ok found loaded = row-enters l n id e away ok found loaded

pub returns-clause-leaves : goal.returns-clause-leaves
returns-clause-leaves c l n id e ahead behind ok found = row-leaves l n id e (run_of e) ahead behind ok found refl

pub returns-clause-loads : goal.returns-clause-loads
returns-clause-loads c k l n section size away ok low high some none = row-loads k l n section size away ok low high some none

pub returns-clause-marks_dead : goal.returns-clause-marks_dead
returns-clause-marks_dead c l n id e away ok found loaded unused = row-marks_dead l n id e away ok found loaded unused

pub returns-clause-scans : goal.returns-clause-scans
returns-clause-scans c k l n away left r cpu reading next = row-scans k l n away left r cpu reading next

pub returns-clause-releases : goal.returns-clause-releases
returns-clause-releases c l n id away left done = row-releases l n id away left done
