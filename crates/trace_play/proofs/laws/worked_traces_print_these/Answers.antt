use Rattle.trace_play.proofs.RowLemmas.{these_are_printed}
use Rattle.trace_play.proofs.laws.worked_traces_print_these.Goals as goal

pub returns-clause-slab_and_object : goal.returns-clause-slab_and_object
returns-clause-slab_and_object c = these_are_printed.0

pub returns-clause-top_one : goal.returns-clause-top_one
returns-clause-top_one c = these_are_printed.1

pub returns-clause-storage_home_at_barrier : goal.returns-clause-storage_home_at_barrier
returns-clause-storage_home_at_barrier c = these_are_printed.2

pub returns-clause-no_vectors : goal.returns-clause-no_vectors
returns-clause-no_vectors c = these_are_printed.3

pub returns-clause-kept_range_bars_load : goal.returns-clause-kept_range_bars_load
returns-clause-kept_range_bars_load c = these_are_printed.4

pub returns-clause-range_given_again : goal.returns-clause-range_given_again
returns-clause-range_given_again c = these_are_printed.5

pub returns-clause-empty_mark_free : goal.returns-clause-empty_mark_free
returns-clause-empty_mark_free c = these_are_printed.6

pub returns-clause-freed_twice : goal.returns-clause-freed_twice
returns-clause-freed_twice c = these_are_printed.7

pub returns-clause-nested_hooks : goal.returns-clause-nested_hooks
returns-clause-nested_hooks c = these_are_printed.8

pub returns-clause-no_frames : goal.returns-clause-no_frames
returns-clause-no_frames c = these_are_printed.9

pub returns-clause-swapped_references : goal.returns-clause-swapped_references
returns-clause-swapped_references c = these_are_printed.10

pub returns-clause-swapped_unequal : goal.returns-clause-swapped_unequal
returns-clause-swapped_unequal c = these_are_printed.11

pub returns-clause-shared_key : goal.returns-clause-shared_key
returns-clause-shared_key c = these_are_printed.12

pub returns-clause-two_file_systems : goal.returns-clause-two_file_systems
returns-clause-two_file_systems c = these_are_printed.13

pub returns-clause-kept_rows_printed : goal.returns-clause-kept_rows_printed
returns-clause-kept_rows_printed c = these_are_printed.14
