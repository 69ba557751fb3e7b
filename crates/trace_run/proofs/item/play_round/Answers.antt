use Rattle.std.proofs.Common.{refl}
use Rattle.trace_run.proofs.Played.{turn_at}
use Rattle.trace_run.proofs.item.play_round.Goals as goal

pub round-requires-after_bounds : goal.round-requires-after_bounds
round-requires-after_bounds g c κs within = let r = c.requires in record { turn = turn_at r.place _ r.next; ops_are = refl; is = r.there }

pub returns : goal.returns
returns g c = λ p text there next. record { stands = c.in_ok-desk.ensures (turn_at p _ next) refl there; refused = refl; text_is = λ same. same }
