use Rattle.std.proofs.Common.{length}
use Rattle.round_keys.proofs.meeting.+counted_in_slots.Given as goal

abbrev pub decreases-counted_in_slots : goal.decreases-counted_in_slots
decreases-counted_in_slots l = length l.slots.now
