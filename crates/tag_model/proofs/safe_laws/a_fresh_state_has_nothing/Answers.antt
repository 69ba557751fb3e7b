use Rattle.tag_model.specs.WordState.{counted, word_of}
use Rattle.tag_model.proofs.Fresh.{fresh_first_id, fresh_stops, no_count, no_word, none_fresh}
use Rattle.tag_model.proofs.safe_laws.a_fresh_state_has_nothing.Goals as goal

pub returns-clause-first_id : goal.returns-clause-first_id
returns-clause-first_id c k parts each fresh = fresh_first_id k parts each fresh

pub returns-clause-no_stop : goal.returns-clause-no_stop
returns-clause-no_stop c k parts kind t fresh = fresh_stops k parts kind t fresh

pub returns-clause-words : goal.returns-clause-words
returns-clause-words c k parts kind t fresh = none_fresh k (word_of kind t) parts fresh (no_word k kind t)

pub returns-clause-counts : goal.returns-clause-counts
returns-clause-counts c k parts kind t fresh = none_fresh k (counted kind t) parts fresh (no_count k kind t)
