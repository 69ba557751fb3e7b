use Rattle.round_modules.proofs.Marks.{Marks}
use Rattle.round_modules.proofs.marking.mark_unknown.Given as goal

abbrev pub invariant-loop-place : goal.invariant-loop-place
invariant-loop-place l = Marks l.known l.place l.initial.locked l.locked
