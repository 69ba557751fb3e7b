use Rattle.std.proofs.Common.{◌≡◌, sum_by, take}
use Rattle.trace_play.specs.Play.{ops_in}
use Rattle.run_text.proofs.counts.ops_among.Given as goal

abbrev pub invariant-loop-item : goal.invariant-loop-item
invariant-loop-item l = l.ops ≡ sum_by ops_in (take l.item-index l.items)
