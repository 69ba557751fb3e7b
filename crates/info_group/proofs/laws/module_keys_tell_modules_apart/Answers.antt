use Rattle.info_group.proofs.KeyLemmas.{same_module_key}
use Rattle.info_group.proofs.laws.module_keys_tell_modules_apart.Goals as goal

pub returns : goal.returns
returns c = same_module_key
