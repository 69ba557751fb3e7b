use Rattle.std.proofs.Common.{◌≡◌, [], None, take}
use Rattle.trace_play.specs.Play.{played_so_far}
use Rattle.rounds.specs.Turns.{StandsAt}
use Rattle.trace_run.specs.Items.{Begins}
use Rattle.trace_run.proofs.items.play_items.Given as goal

-- the desk and the text are as the items before this one leave them, of which none was refused
abbrev pub invariant-loop-item : goal.invariant-loop-item
invariant-loop-item g l =
    (s : Begins l.items l.kept l.initial.desk)
    → StandsAt s.board s.trace (played_so_far s.trace l.top (take l.item-index l.items)).played.machine l.desk
    × ((played_so_far s.trace l.top (take l.item-index l.items)).refused ≡ None)
    × (l.initial.out.items ≡ [] → l.out.items ≡ (played_so_far s.trace l.top (take l.item-index l.items)).played.text)
