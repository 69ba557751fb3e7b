use Rattle.std.proofs.Common.{rules, append_assoc}
use Rattle.step_play.specs.Printed.{released_text}
use Rattle.step_play.proofs.print.write_released.Goals as goal

pub returns : goal.returns
unfolding released_text
returns c = search (rules, append_assoc)
