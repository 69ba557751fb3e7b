use Rattle.std.proofs.Common.{◌++◌, ◌∙◌, refl, sym}
use Rattle.rounds.specs.Places.{machine_at}
use Rattle.trace_play.specs.Printed.{print_text}
use Rattle.trace_run.proofs.item.play_print.Goals as goal

pub returns : goal.returns
returns c = λ p there next top kept. record {
  stands = c.in_ok-print.ensures.stays p.board p.trace (machine_at p) there;
  refused = refl;
  text_is = λ before. c.in_ok-print.ensures.text p there ∙ (λ i. before i ++ print_text p.trace.sections (sym kept i) (sym top i) (machine_at p));
}
