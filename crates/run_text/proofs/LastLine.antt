-- The last line of a run is of its numbers.
use Rattle.std.proofs.Common.{◌≡◌, List, refl}
use Rattle.trace.specs.declared.traces.Item.{Item}
use Rattle.trace_play.specs.Machine.{Machine}
use Rattle.trace_play.specs.Play.{done_text}
use Rattle.run_text.specs.Lines.{done_line, done_of}

pub same_line : (body : List Item) (m : Machine) → done_text body m ≡ done_line (done_of body m)
unfolding done_text done_line
same_line body m = refl
