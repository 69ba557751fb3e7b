use Rattle.std.proofs.Common.{◌∷◌}
use Rattle.tag_model.specs.declared.state.Part.TheVariants.{Modules}
use Rattle.tag_model.proofs.ReleaseRow.{release_in_range, release_is_dead, release_of_module}
use Rattle.tag_rule.specs.Rule.{all_parts}
use Rattle.reclaim.proofs.Releasing.{changes_there}
use Rattle.reclaim.proofs.laws.a_running_release_finds_nothing.Goals as goal

pub returns-clause-dead : goal.returns-clause-dead
returns-clause-dead c k s left id from to ruled stands row = release_is_dead k left id from to (all_parts s.views) (Modules to ∷ stands.rest) row (changes_there from to (all_parts s.views) stands) ruled.safe

pub returns-clause-of_module : goal.returns-clause-of_module
returns-clause-of_module c k s left id from to ruled stands row tag is = release_of_module k left id from to (all_parts s.views) (Modules to ∷ stands.rest) row (changes_there from to (all_parts s.views) stands) ruled.safe tag is

pub returns-clause-in_its_range : goal.returns-clause-in_its_range
returns-clause-in_its_range c k s left id from to ruled stands row kind t there = release_in_range k left id from to (all_parts s.views) (Modules to ∷ stands.rest) row (changes_there from to (all_parts s.views) stands) ruled.safe kind t there
