use Rattle.std.proofs.Common.{◌≡◌, ◌+◌, ◌/◌, replicate, rules}
use Rattle.slab_cache.proofs.FrameSets.{fresh_set, fresh_is}
use Rattle.slab_cache.proofs.frame_set.FrameSet.new.Goals as goal

words_are : (c : goal.In_ok-words) → c.in_ok-words.words.items ≡ replicate (c.args.frames / 64 + 1) 0
words_are c = search rules

pub invariant_of-result : goal.invariant_of-result
invariant_of-result c = fresh_set c.args.frames c.in_ok-words.words.items (words_are c) c.requires

pub returns : goal.returns
returns c = fresh_is c.args.frames c.in_ok-words.words.items (words_are c)
