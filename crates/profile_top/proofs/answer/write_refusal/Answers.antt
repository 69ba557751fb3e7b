use Rattle.std.proofs.Common.{rules, append_assoc}
use Rattle.trace_play.specs.Answer.{refusal_text}
use Rattle.profile_top.proofs.answer.write_refusal.Goals as goal

pub returns : goal.returns
unfolding refusal_text
returns c = search (rules, append_assoc)
