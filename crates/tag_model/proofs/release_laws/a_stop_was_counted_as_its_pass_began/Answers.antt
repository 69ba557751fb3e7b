use Rattle.tag_model.proofs.StopLaw.{stop_was_counted}
use Rattle.tag_model.proofs.release_laws.a_stop_was_counted_as_its_pass_began.Goals as goal

pub returns : goal.returns
returns c k kind t first begun last new ok safe history leads more = stop_was_counted k kind t first begun last new ok safe history leads more
