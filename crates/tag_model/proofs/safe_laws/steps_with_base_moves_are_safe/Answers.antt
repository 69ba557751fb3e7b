use Rattle.tag_model.proofs.Steps.{safe-steps_with}
use Rattle.tag_model.proofs.safe_laws.steps_with_base_moves_are_safe.Goals as goal

pub returns : goal.returns
returns c k old new ok steps safe = safe-steps_with k old new ok steps safe
