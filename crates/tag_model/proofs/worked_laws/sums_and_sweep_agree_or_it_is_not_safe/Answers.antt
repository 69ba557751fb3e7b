use Rattle.tag_model.proofs.WorkedBroken as broken
use Rattle.tag_model.proofs.worked_laws.sums_and_sweep_agree_or_it_is_not_safe.Goals as goal

pub returns-clause-a_byte_more : goal.returns-clause-a_byte_more
returns-clause-a_byte_more c safe = broken.a_byte_more safe

pub returns-clause-a_call_less : goal.returns-clause-a_call_less
returns-clause-a_call_less c safe = broken.a_call_less safe

pub returns-clause-sum_too_low : goal.returns-clause-sum_too_low
returns-clause-sum_too_low c safe = broken.sum_too_low safe

pub returns-clause-done_too_early : goal.returns-clause-done_too_early
returns-clause-done_too_early c safe = broken.done_too_early safe

pub returns-clause-calls_too_early : goal.returns-clause-calls_too_early
returns-clause-calls_too_early c safe = broken.calls_too_early safe

pub returns-clause-past_the_tag : goal.returns-clause-past_the_tag
returns-clause-past_the_tag c safe = broken.past_the_tag safe

pub returns-clause-lists_the_loaded : goal.returns-clause-lists_the_loaded
returns-clause-lists_the_loaded c safe = broken.lists_the_loaded safe
