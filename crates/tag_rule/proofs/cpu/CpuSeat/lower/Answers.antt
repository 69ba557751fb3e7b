use Rattle.std.proofs.Common.{ap}
use Rattle.tag_rule.proofs.CpuWords.{falls_shown}
use Rattle.tag_rule.proofs.cpu.CpuSeat.lower.Goals as goal

pub subtract-requires-clause-step : goal.subtract-requires-clause-step
subtract-requires-clause-step c =
    falls_shown _ _ _ _ _ _ _ _ c.deref-words.ensures (ap (λ m. m.0) c.self.invariant.me) c.self.view_is c.word_at-at.ensures c.self.invariant.kept.number_is c.requires.tag c.self.invariant.holds.long c.ranges.n.fits c.requires.keeps
