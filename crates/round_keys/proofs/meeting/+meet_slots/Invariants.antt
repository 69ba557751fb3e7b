use Rattle.std.proofs.Common.{length}
use Rattle.round_keys.proofs.meeting.+meet_slots.Given as goal

abbrev pub decreases-meet_slots : goal.decreases-meet_slots
decreases-meet_slots l = length l.slots.now
