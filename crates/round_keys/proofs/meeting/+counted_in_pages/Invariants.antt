use Rattle.std.proofs.Common.{length}
use Rattle.round_keys.proofs.meeting.+counted_in_pages.Given as goal

abbrev pub decreases-counted_in_pages : goal.decreases-counted_in_pages
decreases-counted_in_pages l = length l.pages.now
