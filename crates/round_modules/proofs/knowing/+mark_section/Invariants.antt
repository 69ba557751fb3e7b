use Rattle.std.proofs.Common.{length}
use Rattle.round_modules.proofs.knowing.+mark_section.Given as goal

abbrev pub decreases-mark_section : goal.decreases-mark_section
decreases-mark_section l = length l.known.now
