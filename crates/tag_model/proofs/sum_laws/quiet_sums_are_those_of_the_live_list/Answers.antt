use Rattle.tag_model.proofs.Live.{live_counts, live_held, live_words, live_once}
use Rattle.tag_model.proofs.sum_laws.quiet_sums_are_those_of_the_live_list.Goals as goal

pub returns-clause-counted : goal.returns-clause-counted
returns-clause-counted c parts kind t none = live_counts kind t parts none

pub returns-clause-words : goal.returns-clause-words
returns-clause-words c k parts kind t safe none = live_words k parts kind t safe none

pub returns-clause-no_place_twice : goal.returns-clause-no_place_twice
returns-clause-no_place_twice c k parts n safe = live_once k parts n safe

pub returns-clause-none_holds_nothing : goal.returns-clause-none_holds_nothing
returns-clause-none_holds_nothing c parts = live_held parts
