use Rattle.std.proofs.Common.{◌++◌}
use Rattle.tag_rule.specs.Meeting.{StandSafe}
use Rattle.tag_rule.proofs.meeting.meet.Given as goal

abbrev pub ghosts-exchange : goal.ghosts-exchange
ghosts-exchange a = record { kept = a.one.now.me.0; gone = a.other.now.me.0; told = StandSafe a.words.now.shape (a.one.now.me.0.parts ++ a.other.now.me.0.parts) }
