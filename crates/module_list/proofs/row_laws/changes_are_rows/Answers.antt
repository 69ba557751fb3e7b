use Rattle.module_list.proofs.Changes.{row-enters, row-leaves, row-loads, row-marks_dead, row-releases, row-scans}
use Rattle.module_list.proofs.row_laws.changes_are_rows.Goals as goal

pub returns-clause-loads : goal.returns-clause-loads
returns-clause-loads c k l reads id section start size away some low high clear = row-loads k l reads id section start size away some low high clear

pub returns-clause-enters : goal.returns-clause-enters
returns-clause-enters c l reads id r away rises found loaded = row-enters l reads id r away rises found loaded

pub returns-clause-leaves : goal.returns-clause-leaves
returns-clause-leaves c l reads id r ahead behind rises found = row-leaves l reads id r ahead behind rises found

pub returns-clause-marks_dead : goal.returns-clause-marks_dead
returns-clause-marks_dead c l reads id r away rises found loaded unused = row-marks_dead l reads id r away rises found loaded unused

pub returns-clause-scans : goal.returns-clause-scans
returns-clause-scans c k l reads away left r cpu reading next = row-scans k l reads away left r cpu reading next

pub returns-clause-releases : goal.returns-clause-releases
returns-clause-releases c l reads id away left done listed = row-releases l reads id away left done listed
