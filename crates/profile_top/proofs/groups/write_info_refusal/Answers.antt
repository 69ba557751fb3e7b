use Rattle.std.proofs.Common.{rules, append_assoc}
use Rattle.profile_top.specs.Answers.{info_refusal_text}
use Rattle.profile_top.proofs.groups.write_info_refusal.Goals as goal

pub returns : goal.returns
unfolding info_refusal_text
returns c = search (rules, append_assoc)
