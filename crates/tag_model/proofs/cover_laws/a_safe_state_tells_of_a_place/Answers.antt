use Rattle.tag_model.proofs.PartTells.{place_covered}
use Rattle.tag_model.proofs.cover_laws.a_safe_state_tells_of_a_place.Goals as goal

pub returns : goal.returns
returns c k n tag size l parts stands safe = place_covered k n tag size l parts stands safe
