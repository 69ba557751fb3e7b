use Rattle.round_keys.proofs.ComingBack.{all_back}
use Rattle.round_keys.proofs.laws.keys_come_back.Goals as goal

pub returns : goal.returns
returns c = all_back
