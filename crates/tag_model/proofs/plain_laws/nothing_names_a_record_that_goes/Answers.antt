use Rattle.tag_model.proofs.PlainRelease.{gone_from_hands, gone_from_places, gone_is_dead}
use Rattle.tag_model.proofs.plain_laws.nothing_names_a_record_that_goes.Goals as goal

pub returns-clause-dead : goal.returns-clause-dead
returns-clause-dead c k r old new ok safe goes = gone_is_dead k r old new ok safe goes

pub returns-clause-places : goal.returns-clause-places
returns-clause-places c k r old new ok safe goes ahead n tag size behind is = gone_from_places k r old new ok safe goes ahead n tag size behind is

pub returns-clause-hands : goal.returns-clause-hands
returns-clause-hands c k r old new ok safe goes ahead cpu hand behind is held = gone_from_hands k r old new ok safe goes ahead cpu hand behind is held
