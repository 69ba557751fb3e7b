use Rattle.std.proofs.Common.{rules, append_assoc}
use Rattle.run_text.specs.Lines.{done_line}
use Rattle.run_text.proofs.done.write_done.Goals as goal

pub returns : goal.returns
unfolding done_line
returns c = search (rules, append_assoc)
