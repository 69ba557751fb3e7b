use Rattle.trace_play.proofs.AloneLemmas.{is_alone, own_keys, other_keys, own_names}
use Rattle.trace_play.proofs.round_laws.a_cpu_is_alone.Goals as goal

pub returns-clause-done : goal.returns-clause-done
returns-clause-done c = is_alone

pub returns-clause-own_keys : goal.returns-clause-own_keys
returns-clause-own_keys c = own_keys

pub returns-clause-other_keys : goal.returns-clause-other_keys
returns-clause-other_keys c = other_keys

pub returns-clause-names : goal.returns-clause-names
returns-clause-names c = own_names
