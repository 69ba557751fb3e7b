use Rattle.std.proofs.Common.{refl}
use Rattle.std.specs.Fmt.{digits}
use Rattle.allocinfo.specs.Text.{row_text, place_text}
use Rattle.codetag.specs.TagParts.{tag_text}
use Rattle.cpu_ops.specs.Machine.{no_places}
use Rattle.core_steps.specs.Moved.{words_moved}
use Rattle.step_play.specs.Printed.{cpu_text, kept_text, released_text}
use Rattle.step_play.proofs.rows.worked_schedules_of_modules.Goals as goal

pub returns-clause-split_race : goal.returns-clause-split_race
unfolding no_places words_moved kept_text digits
returns-clause-split_race c = refl

pub returns-clause-free_in_progress : goal.returns-clause-free_in_progress
unfolding no_places words_moved kept_text digits
returns-clause-free_in_progress c = refl

pub returns-clause-clean_after_kept : goal.returns-clause-clean_after_kept
unfolding no_places words_moved kept_text released_text digits
returns-clause-clean_after_kept c = refl

pub returns-clause-range_used_again : goal.returns-clause-range_used_again
unfolding row_text place_text tag_text no_places words_moved cpu_text released_text digits
returns-clause-range_used_again c = refl

pub returns-clause-no_room_in_the_area : goal.returns-clause-no_room_in_the_area
returns-clause-no_room_in_the_area c = refl

pub returns-clause-already_loaded : goal.returns-clause-already_loaded
returns-clause-already_loaded c = refl
