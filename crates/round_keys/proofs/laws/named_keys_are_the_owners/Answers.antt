use Rattle.round_keys.proofs.OwnersNamed.{named_are_owners}
use Rattle.round_keys.proofs.laws.named_keys_are_the_owners.Goals as goal

pub returns : goal.returns
returns c = named_are_owners
