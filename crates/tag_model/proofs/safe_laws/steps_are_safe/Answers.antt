use Rattle.tag_model.proofs.Steps.{step_is_safe}
use Rattle.tag_model.proofs.safe_laws.steps_are_safe.Goals as goal

pub returns : goal.returns
returns c k old new ok step safe = step_is_safe k old new ok step safe
