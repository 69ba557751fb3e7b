use Rattle.std.proofs.Common.{ap, rules}
use Rattle.tag_rule.proofs.CpuWords.{looks_at}
use Rattle.tag_rule.proofs.reading.read_own.Goals as goal

pub look-requires-clause-step : goal.look-requires-clause-step
look-requires-clause-step c = looks_at _ _ _ _ _ _ _ (ap (λ m. m.0) c.cpu.invariant.me) c.word_at-at.ensures c.cpu.invariant.kept.number_is (search rules)
