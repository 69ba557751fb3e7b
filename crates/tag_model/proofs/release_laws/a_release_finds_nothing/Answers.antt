use Rattle.tag_model.proofs.ReleaseRow.{release_is_dead, release_of_module, release_in_range}
use Rattle.tag_model.proofs.release_laws.a_release_finds_nothing.Goals as goal

pub returns-clause-dead : goal.returns-clause-dead
returns-clause-dead c k left id from to old new row becomes safe = release_is_dead k left id from to old new row becomes safe

pub returns-clause-of_module : goal.returns-clause-of_module
returns-clause-of_module c k left id from to old new row becomes safe tag is = release_of_module k left id from to old new row becomes safe tag is

pub returns-clause-in_its_range : goal.returns-clause-in_its_range
returns-clause-in_its_range c k left id from to old new row becomes safe kind t there = release_in_range k left id from to old new row becomes safe kind t there
