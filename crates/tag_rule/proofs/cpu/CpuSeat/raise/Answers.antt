use Rattle.std.proofs.Common.{ap}
use Rattle.tag_rule.proofs.CpuWords.{raises_shown}
use Rattle.tag_rule.proofs.cpu.CpuSeat.raise.Goals as goal

pub add-requires-clause-step : goal.add-requires-clause-step
add-requires-clause-step c =
    raises_shown _ _ _ _ _ _ _ _ c.deref-words.ensures (ap (λ m. m.0) c.self.invariant.me) c.self.view_is c.word_at-at.ensures c.self.invariant.kept.number_is c.requires.tag c.self.invariant.holds.long c.requires.keeps
