use Rattle.tag_model.proofs.WorkedBroken as broken
use Rattle.tag_model.proofs.worked_laws.notes_agree_or_it_is_not_safe.Goals as goal

pub returns-clause-another_section : goal.returns-clause-another_section
returns-clause-another_section c safe = broken.another_section safe

pub returns-clause-another_start : goal.returns-clause-another_start
returns-clause-another_start c safe = broken.another_start safe

pub returns-clause-another_length : goal.returns-clause-another_length
returns-clause-another_length c safe = broken.another_length safe

pub returns-clause-dead_but_loaded : goal.returns-clause-dead_but_loaded
returns-clause-dead_but_loaded c safe = broken.dead_but_loaded safe

pub returns-clause-not_given : goal.returns-clause-not_given
returns-clause-not_given c safe = broken.not_given safe
