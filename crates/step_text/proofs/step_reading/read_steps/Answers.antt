use Rattle.step_text.proofs.StepForm.{read_is_formed}
use Rattle.step_text.proofs.step_reading.read_steps.Goals as goal

pub returns-clause-formed : goal.returns-clause-formed
returns-clause-formed c = read_is_formed c.whole_schedule.result c.args.text.now c.whole_schedule.ensures
