use Rattle.tag_model.proofs.Lent.{few_runs, the_list_of}
use Rattle.tag_model.proofs.ListTells.{away_is_loaded, few_users, ids_below, list_laws_of, sweep_in_bounds, users_are_runs}
use Rattle.tag_model.proofs.cover_laws.a_safe_state_tells_of_its_list.Goals as goal

pub returns-clause-ids_rise : goal.returns-clause-ids_rise
returns-clause-ids_rise c k l parts stands safe = (sweep_in_bounds k l parts stands safe).1

pub returns-clause-ids_below : goal.returns-clause-ids_below
returns-clause-ids_below c k l parts stands safe = ids_below k l parts stands safe

pub returns-clause-in_the_area : goal.returns-clause-in_the_area
returns-clause-in_the_area c k l parts stands safe = (list_laws_of k l parts stands safe).records_fit

pub returns-clause-ids_apart : goal.returns-clause-ids_apart
returns-clause-ids_apart c k l parts id stands safe = (list_laws_of k l parts stands safe).apart id

pub returns-clause-ranges_apart : goal.returns-clause-ranges_apart
returns-clause-ranges_apart c k l parts t stands safe = (list_laws_of k l parts stands safe).ranges t

pub returns-clause-sweep_in_bounds : goal.returns-clause-sweep_in_bounds
returns-clause-sweep_in_bounds c k l parts stands safe = (sweep_in_bounds k l parts stands safe).0

pub returns-clause-users_are_runs : goal.returns-clause-users_are_runs
returns-clause-users_are_runs c k l parts id stands safe = users_are_runs k l parts stands safe id

pub returns-clause-few_runs : goal.returns-clause-few_runs
returns-clause-few_runs c k l parts id stands safe = few_runs k l parts (the_list_of k l parts stands safe) safe id

pub returns-clause-few_users : goal.returns-clause-few_users
returns-clause-few_users c k l parts stands safe = few_users k l parts stands safe

pub returns-clause-run_on_its_way : goal.returns-clause-run_on_its_way
returns-clause-run_on_its_way c k l parts ahead run behind stands safe is = away_is_loaded k l parts stands safe ahead run behind is
