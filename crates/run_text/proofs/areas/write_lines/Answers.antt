use Rattle.std.proofs.Common.{rules, append_assoc}
use Rattle.run_text.specs.Lines.{area_lines}
use Rattle.run_text.proofs.areas.write_lines.Goals as goal

pub returns : goal.returns
unfolding area_lines
returns c = search (rules, append_assoc)
