use Rattle.step_text.proofs.StepForm.{steps_of_formed}
use Rattle.step_play.specs.Schedule.{setting_of}
use Rattle.step_play.proofs.ReachedLemmas.{passed, reached_core, setting_is}
use Rattle.step_play.proofs.laws.inputs_are_safe.Goals as goal

pub returns : goal.returns
returns c input steps p read passes =
    let are = steps_of_formed input steps read in
    (reached_core (setting_of steps) p (setting_is steps are) (passed steps p are passes)).safe
