use Rattle.core_list.proofs.Kept.{list_loaded, list_entered, list_left, list_dead_marked, list_swept, list_scanned, list_released}
use Rattle.core_list.proofs.rows.changes_keep_the_list.Goals as goal

pub returns-clause-loaded : goal.returns-clause-loaded
returns-clause-loaded c l section size ok some none = list_loaded l section size ok some none

pub returns-clause-entered : goal.returns-clause-entered
returns-clause-entered c l id ok = list_entered l id ok

pub returns-clause-left : goal.returns-clause-left
returns-clause-left c l id ok = list_left l id ok

pub returns-clause-dead : goal.returns-clause-dead
returns-clause-dead c l id ok = list_dead_marked l id ok

pub returns-clause-swept : goal.returns-clause-swept
returns-clause-swept c l ok = list_swept l ok

pub returns-clause-scanned : goal.returns-clause-scanned
returns-clause-scanned c k word l ok fits = list_scanned k word l ok fits

pub returns-clause-released : goal.returns-clause-released
returns-clause-released c l ok = list_released l ok
