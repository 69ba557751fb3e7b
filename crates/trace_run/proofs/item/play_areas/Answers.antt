use Rattle.std.proofs.Common.{◌++◌, ◌∙◌, refl}
use Rattle.rounds.specs.Places.{machine_at}
use Rattle.trace_play.specs.Printed.{areas_text}
use Rattle.trace_run.proofs.item.play_areas.Goals as goal

pub returns : goal.returns
returns c = λ p there next. record {
  stands = there;
  refused = refl;
  text_is = λ before. c.in_ok-print_areas.ensures p.board p.trace (machine_at p) there ∙ (λ i. before i ++ areas_text p.trace.sections (machine_at p));
}
