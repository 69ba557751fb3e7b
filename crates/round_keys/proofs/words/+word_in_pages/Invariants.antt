use Rattle.std.proofs.Common.{length}
use Rattle.round_keys.proofs.words.+word_in_pages.Given as goal

abbrev pub decreases-word_in_pages : goal.decreases-word_in_pages
decreases-word_in_pages l = length l.pages.now
