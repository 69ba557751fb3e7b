use Rattle.tag_model.proofs.WorkedSafe.{small_state_is_safe}
use Rattle.tag_model.proofs.worked_laws.the_small_state_is_safe.Goals as goal

pub returns : goal.returns
returns c = small_state_is_safe
