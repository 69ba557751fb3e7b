use Rattle.std.proofs.Common.{refl}
use Rattle.std.specs.Fmt.{digits}
use Rattle.allocinfo.specs.Text.{row_text, place_text}
use Rattle.codetag.specs.TagParts.{tag_text}
use Rattle.cpu_ops.specs.Machine.{no_places}
use Rattle.step_play.specs.Printed.{cpu_text}
use Rattle.step_play.proofs.rows.worked_schedules.Goals as goal

pub returns-clause-one_allocation : goal.returns-clause-one_allocation
unfolding row_text place_text tag_text no_places digits
returns-clause-one_allocation c = refl

pub returns-clause-remote_free_words : goal.returns-clause-remote_free_words
unfolding row_text place_text tag_text no_places digits cpu_text
returns-clause-remote_free_words c = refl

pub returns-clause-split_counts : goal.returns-clause-split_counts
unfolding row_text place_text tag_text no_places digits
returns-clause-split_counts c = refl
