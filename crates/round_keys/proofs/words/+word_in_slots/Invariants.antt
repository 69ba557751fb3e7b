use Rattle.std.proofs.Common.{length}
use Rattle.round_keys.proofs.words.+word_in_slots.Given as goal

abbrev pub decreases-word_in_slots : goal.decreases-word_in_slots
decreases-word_in_slots l = length l.slots.now
