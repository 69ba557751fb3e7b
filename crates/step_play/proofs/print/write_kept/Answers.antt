use Rattle.std.proofs.Common.{rules, append_assoc}
use Rattle.step_play.specs.Printed.{kept_text}
use Rattle.step_play.proofs.print.write_kept.Goals as goal

pub returns : goal.returns
unfolding kept_text
returns c = search (rules, append_assoc)
