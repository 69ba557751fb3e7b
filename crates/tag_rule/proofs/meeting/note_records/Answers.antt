use Rattle.std.proofs.Common.{ap}
use Rattle.tag_rule.proofs.Noted.{notes_at}
use Rattle.tag_rule.proofs.meeting.note_records.Goals as goal

pub exchange-requires-clause-moves : goal.exchange-requires-clause-moves
exchange-requires-clause-moves c = notes_at _ _ _ (ap (λ m. m.0) c.cpu.invariant.me) (ap (λ m. m.0) c.list.invariant.me)
