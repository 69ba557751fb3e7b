use Rattle.tag_model.proofs.Steps.{enters_away, leaves_away}
use Rattle.tag_model.proofs.safe_laws.no_run_is_left_on_its_way.Goals as goal

pub returns-clause-enters : goal.returns-clause-enters
returns-clause-enters c old new s test = enters_away old new s test

pub returns-clause-leaves : goal.returns-clause-leaves
returns-clause-leaves c old new s test = leaves_away old new s test
