use Rattle.std.proofs.Common.{◌+◌, ◌*◌, length}
use Rattle.tag_rule.proofs.meeting.+meeting.Given as goal

abbrev pub decreases-meet_rest : goal.decreases-meet_rest
decreases-meet_rest l = 2 * length l.cpus.now

abbrev pub decreases-meet_first : goal.decreases-meet_first
decreases-meet_first l = 2 * length l.rest.now + 1
