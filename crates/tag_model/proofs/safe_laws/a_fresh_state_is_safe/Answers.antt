use Rattle.tag_model.proofs.Fresh.{fresh_safe}
use Rattle.tag_model.proofs.safe_laws.a_fresh_state_is_safe.Goals as goal

pub returns : goal.returns
returns c k parts each fresh = fresh_safe k parts each fresh
