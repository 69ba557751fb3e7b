use Rattle.tag_model.proofs.StopLaw.{history_safe}
use Rattle.tag_model.proofs.safe_laws.histories_are_safe.Goals as goal

pub returns : goal.returns
returns c k first later ok safe history = history_safe k first later ok history safe
