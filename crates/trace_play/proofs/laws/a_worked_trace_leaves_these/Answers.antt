use Rattle.trace_play.proofs.RowLemmas.{these_are_left}
use Rattle.trace_play.proofs.laws.a_worked_trace_leaves_these.Goals as goal

pub returns-clause-bytes_of_the_allocating_cpu : goal.returns-clause-bytes_of_the_allocating_cpu
returns-clause-bytes_of_the_allocating_cpu c = these_are_left.0

pub returns-clause-calls_of_the_allocating_cpu : goal.returns-clause-calls_of_the_allocating_cpu
returns-clause-calls_of_the_allocating_cpu c = these_are_left.1

pub returns-clause-bytes_of_the_freeing_cpu : goal.returns-clause-bytes_of_the_freeing_cpu
returns-clause-bytes_of_the_freeing_cpu c = these_are_left.2

pub returns-clause-calls_of_the_freeing_cpu : goal.returns-clause-calls_of_the_freeing_cpu
returns-clause-calls_of_the_freeing_cpu c = these_are_left.3

pub returns-clause-first_cell : goal.returns-clause-first_cell
returns-clause-first_cell c = these_are_left.4

pub returns-clause-second_cell : goal.returns-clause-second_cell
returns-clause-second_cell c = these_are_left.5
