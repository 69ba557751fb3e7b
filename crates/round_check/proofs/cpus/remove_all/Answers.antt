use Rattle.std.proofs.Common.{eqb, not, rules}
use Rattle.std.proofs.lemmas.Fn.{filter_same}
use Rattle.round_check.proofs.cpus.remove_all.Goals as goal

pub returns : goal.returns
returns c = filter_same _ (λ x. not (eqb x c.args.section)) _ (λ x b f' k. search rules) _ _ c.retain.ensures.filtered
