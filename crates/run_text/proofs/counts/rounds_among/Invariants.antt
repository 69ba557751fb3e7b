use Rattle.std.proofs.Common.{◌≡◌, ◌≤◌, count_by, take}
use Rattle.trace_play.specs.Play.{is_round}
use Rattle.run_text.proofs.counts.rounds_among.Given as goal

abbrev pub invariant-loop-item : goal.invariant-loop-item
invariant-loop-item l = (l.rounds ≡ count_by is_round (take l.item-index l.items)) × (l.rounds ≤ l.item-index)
