use Rattle.std.proofs.Common.{rules, append_assoc}
use Rattle.step_play.specs.Printed.{cpu_text}
use Rattle.step_play.proofs.print.write_cpu.Goals as goal

pub returns : goal.returns
unfolding cpu_text
returns c = search (rules, append_assoc)
