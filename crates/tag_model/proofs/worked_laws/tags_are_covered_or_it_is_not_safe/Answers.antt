use Rattle.tag_model.proofs.WorkedBroken as broken
use Rattle.tag_model.proofs.worked_laws.tags_are_covered_or_it_is_not_safe.Goals as goal

pub returns-clause-no_record : goal.returns-clause-no_record
returns-clause-no_record c safe = broken.no_record safe

pub returns-clause-another_range : goal.returns-clause-another_range
returns-clause-another_range c safe = broken.another_range safe

pub returns-clause-no_kernel_tag : goal.returns-clause-no_kernel_tag
returns-clause-no_kernel_tag c safe = broken.no_kernel_tag safe

pub returns-clause-hand : goal.returns-clause-hand
returns-clause-hand c safe = broken.hand safe

pub returns-clause-opening : goal.returns-clause-opening
returns-clause-opening c safe = broken.opening safe
