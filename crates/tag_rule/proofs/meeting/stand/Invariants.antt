use Rattle.tag_rule.specs.Meeting.{StandSafe}
use Rattle.tag_rule.proofs.meeting.stand.Given as goal

abbrev pub ghosts-turn : goal.ghosts-turn
ghosts-turn a = record { to = a.seat.now.me.0; told = StandSafe a.words.now.shape a.seat.now.me.0.parts }
