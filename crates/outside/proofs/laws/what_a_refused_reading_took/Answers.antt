use Rattle.outside.proofs.laws.what_a_refused_reading_took.Goals as goal

pub returns-clause-too_long : goal.returns-clause-too_long
returns-clause-too_long c = λ limit left left_after took. (took.bytes, took.taken, took.amount)

pub returns-clause-failed : goal.returns-clause-failed
returns-clause-failed c = λ limit left left_after took. (took.bytes, took.taken, took.amount)

pub returns-clause-memory : goal.returns-clause-memory
returns-clause-memory c = λ limit want left left_after took. (took.bytes, took.taken, took.amount)

pub returns-clause-within : goal.returns-clause-within
returns-clause-within c = λ limit left left_after took. (took.bytes, took.taken, took.within)
