use Rattle.tag_model.proofs.Places.{safe_same}
use Rattle.tag_model.proofs.safe_laws.safe_in_any_order.Goals as goal

pub returns : goal.returns
returns c k old new same safe = safe_same k old new same safe
