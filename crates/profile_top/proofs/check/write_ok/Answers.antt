use Rattle.std.proofs.Common.{rules, append_assoc}
use Rattle.profile_top.specs.Answers.{ok_text}
use Rattle.profile_top.proofs.check.write_ok.Goals as goal

pub returns : goal.returns
unfolding ok_text
returns c = search (rules, append_assoc)
