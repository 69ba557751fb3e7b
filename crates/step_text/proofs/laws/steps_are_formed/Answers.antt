use Rattle.step_text.proofs.StepForm.{steps_of_formed}
use Rattle.step_text.proofs.laws.steps_are_formed.Goals as goal

pub returns : goal.returns
returns c = steps_of_formed
