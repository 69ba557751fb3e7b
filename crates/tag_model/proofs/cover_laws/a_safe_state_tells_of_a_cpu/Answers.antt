use Rattle.std.proofs.Common.{[]}
use Rattle.tag_model.proofs.PartTells.{hand_covered_by, note_given, notes_agree_by}
use Rattle.tag_model.proofs.Parts.{standing}
use Rattle.tag_model.proofs.Told.{hand_in_tags, one_run_each, run_is_loaded}
use Rattle.tag_model.proofs.cover_laws.a_safe_state_tells_of_a_cpu.Goals as goal

pub returns-clause-one_run_each : goal.returns-clause-one_run_each
returns-clause-one_run_each c k cpu parts id stands safe = one_run_each k cpu [] _ parts parts (standing _ parts stands) safe id

pub returns-clause-run_is_loaded : goal.returns-clause-run_is_loaded
returns-clause-run_is_loaded c k cpu l parts front run back stands safe has = run_is_loaded k cpu l _ parts parts (standing _ parts stands) safe front run back has

pub returns-clause-hand_in_tags : goal.returns-clause-hand_in_tags
returns-clause-hand_in_tags c k cpu parts hand ok stands safe is = hand_in_tags k cpu hand [] _ parts parts ok (standing _ parts stands) safe is

pub returns-clause-hand_is_covered : goal.returns-clause-hand_is_covered
returns-clause-hand_is_covered c k cpu l parts hand stands safe is = hand_covered_by k cpu l parts hand stands safe is

pub returns-clause-note_was_given : goal.returns-clause-note_was_given
returns-clause-note_was_given c k cpu parts front note back stands safe is = note_given k cpu parts front note back stands safe is

pub returns-clause-note_agrees : goal.returns-clause-note_agrees
returns-clause-note_agrees c k cpu l parts front note back stands safe is = notes_agree_by k cpu l parts front note back stands safe is
