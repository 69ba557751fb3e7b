use Rattle.tag_model.proofs.WorkedBroken as broken
use Rattle.tag_model.proofs.worked_laws.records_and_runs_agree_or_it_is_not_safe.Goals as goal

pub returns-clause-run_on_dead : goal.returns-clause-run_on_dead
returns-clause-run_on_dead c safe = broken.run_on_dead safe

pub returns-clause-run_on_another_range : goal.returns-clause-run_on_another_range
returns-clause-run_on_another_range c safe = broken.run_on_another_range safe

pub returns-clause-another_user : goal.returns-clause-another_user
returns-clause-another_user c safe = broken.another_user safe

pub returns-clause-ranges_overlap : goal.returns-clause-ranges_overlap
returns-clause-ranges_overlap c safe = broken.ranges_overlap safe

pub returns-clause-an_id_twice : goal.returns-clause-an_id_twice
returns-clause-an_id_twice c safe = broken.an_id_twice safe

pub returns-clause-not_below_next : goal.returns-clause-not_below_next
returns-clause-not_below_next c safe = broken.not_below_next safe
