use Rattle.tag_model.proofs.Lent.{all_lent}
use Rattle.tag_model.proofs.part_laws.all_but_places_may_be_lent.Goals as goal

pub returns : goal.returns
returns c k lent parts weight all stands safe none = all_lent k lent parts all stands safe weight none
