use Rattle.module_list.proofs.Bare.{bare_entered, bare_left, bare_loaded, bare_marked_dead, bare_read_to, bare_released, bare_scanned, bare_swept, fits_bare}
use Rattle.module_list.proofs.row_laws.what_is_kept_goes_along.Goals as goal

pub returns-clause-loads : goal.returns-clause-loads
returns-clause-loads c l id section start size = bare_loaded l id section start size

pub returns-clause-enters : goal.returns-clause-enters
returns-clause-enters c l id = bare_entered l id

pub returns-clause-leaves : goal.returns-clause-leaves
returns-clause-leaves c l id = bare_left l id

pub returns-clause-marks_dead : goal.returns-clause-marks_dead
returns-clause-marks_dead c l id = bare_marked_dead l id

pub returns-clause-sweeps : goal.returns-clause-sweeps
returns-clause-sweeps c l = bare_swept l

pub returns-clause-scans : goal.returns-clause-scans
returns-clause-scans c k word l = bare_scanned k word l

pub returns-clause-reads : goal.returns-clause-reads
returns-clause-reads c cpu sum l = bare_read_to cpu sum l

pub returns-clause-releases : goal.returns-clause-releases
returns-clause-releases c l id = bare_released l id

pub returns-clause-fits : goal.returns-clause-fits
returns-clause-fits c k l = fits_bare k l.sweep l.records
