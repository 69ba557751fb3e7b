use Rattle.tag_model.proofs.Steps.{base_move_is_safe}
use Rattle.tag_model.proofs.safe_laws.base_moves_are_safe.Goals as goal

pub returns : goal.returns
returns c k v w old new move becomes safe = base_move_is_safe k v w old new move becomes safe
